-- A box that serves a letter, or has an answer to say, makes an event in its turn.
use Rattle.std.proofs.Common.{◌≡◌, ◌≢◌, ◌↔◌, ℕ, ◌<◌, false, length, slice_get, slice_index_or, Some, refl, sym, ap, ◌∙◌, subst, arith}
use Rattle.std.proofs.lemmas.Option.{slice_get-get_or}
use Rattle.rl_base.specs.declared.ids.BoxId.{BoxId}
use Rattle.rl_base.specs.declared.job.Verb.{Verb}
use Rattle.rl_base.specs.declared.job.Verb.TheVariants as verbs
use Rattle.rl_base.specs.declared.layout.Layout.{Layout}
use Rattle.rl_base.specs.declared.layout.NodeKind.TheVariants as nodes
use Rattle.rl_base.specs.declared.layout.WordKind.{WordKind}
use Rattle.rl_base.specs.declared.layout.WordKind.TheVariants as kinds
use Rattle.rl_base.specs.Layout.{word_count, word_number, HasWord}
use Rattle.rl_record.specs.declared.event.Event.{Event}
use Rattle.rl_record.specs.declared.event.Turn.TheVariants.{Moved}
use Rattle.rl_words.specs.Stamps.{payload_in}
use Rattle.rl_words.specs.declared.mail.Letter.{Letter}
use Rattle.rl_words.specs.declared.mail.MailWord.TheVariants.{Ask}
use Rattle.rl_words.specs.Word.{Word, PackedStep, kind_of, packed_word}
use Rattle.rl_words.specs.Word.Word.{Mail}
use Rattle.rl_tables.specs.declared.table.BoxTable.{BoxTable}
use Rattle.rl_tables.specs.declared.table.Tables.{Tables}
use Rattle.rl_tables.specs.Kept.{IsLine}
use Rattle.rl_tables.specs.Starts.{layout_of}
use Rattle.rl_box.specs.declared.mind.BoxMind.{BoxMind}
use Rattle.rl_box.specs.declared.mind.Work.{Work}
use Rattle.rl_box.specs.declared.mind.Work.TheVariants.{Ready, Serve, Say}
use Rattle.rl_box.specs.Mind.{IsBoxMind}
use Rattle.rl_box.specs.Steps.{BoxStep, box_step, box_target, verb_target, work_target}
use Rattle.rl_steps.specs.declared.mind.Mind.{Mind}
use Rattle.rl_steps.specs.declared.mind.Mind.TheVariants.{Train, Track, Box, Machine}
use Rattle.rl_steps.specs.Numbers.{node_at, word_at}
use Rattle.rl_steps.specs.Sound.{IsMindOf}
use Rattle.rl_steps.specs.State.{CoreState, event_at, next_stamp}
use Rattle.rl_steps.specs.Step.{node_step, target_of, as_mind, has_nothing, is_ready}
use Rattle.rl_steps.specs.Turn.{Drive, answer_of_target, target_in}
use Rattle.rl_steps.proofs.FromCalls.{box_target_there}
use Rattle.rl_steps.proofs.ByKind.{box_step_at, box_target_at}
use Rattle.rl_steps.proofs.Numbering.{node_at-some, word_at-number}
use Rattle.rl_steps.proofs.Sounding.{AreMinded}
use Rattle.rl_protocol.specs.Agreement.{Agrees}
use Rattle.rl_protocol.specs.AtWork.{word_for, word_at_work}
use Rattle.rl_protocol.specs.Minds.{train}
use Rattle.rl_protocol.specs.Sentences.{StateSays, HasLine}
use Rattle.rl_protocol.specs.State.{State}
use Rattle.rl_protocol.specs.TableLine.{line_of}
use Rattle.rl_protocol.proofs.Moved.{item_there}
use Rattle.rl_safety.specs.Readable.{AreReadable}
use Rattle.rl_safety.specs.Reading.{read, payload_of}
use Rattle.rl_safety.proofs.Events.{ReadsWords, says_read, box_here}
use Rattle.rl_safety.proofs.Payloads.{payload_read}
use Rattle.rl_safety.proofs.Started.{number_within}

-- the laws of the crates below that are needed here
pub record WorkLaws : Type 0 where
  pub words : ReadsWords
  pub lines : (x : BoxTable) (mind : BoxMind) (kind : WordKind) (payload new : ℕ) (after : BoxMind)
      → (box_step x mind kind payload ≡ Some (new, after)) ↔ PackedStep (BoxStep x mind) kind payload new after
  pub at_work : (tables : Tables) (tries : ℕ) (s : State) (b : ℕ) (x : BoxTable) (w : Word) → IsLine tables → Agrees (line_of tables) tries s
      → slice_get tables.boxes b ≡ Some x → word_at_work b (s.boxes b).work ≡ Some (kind_of w) → StateSays s w → HasLine x (s.boxes b) w
  pub asked : (tables : Tables) (tries : ℕ) (s : State) (t : ℕ) (l : Letter) (x : BoxTable) → IsLine tables → Agrees (line_of tables) tries s
      → slice_get tables.boxes l.to.0 ≡ Some x → s.mail t ≡ Ask l → (s.boxes l.to.0).work ≡ Ready
      → HasLine x (s.boxes l.to.0) (Mail (train t) (Ask l))

-- the word at which a box at work looks, and that it isn't the still word
verb_word : (x : BoxTable) (b : BoxId) (verb : Verb) → x.number ≡ b → (word_for b.0 verb ≡ verb_target x verb) × (verb_target x verb ≢ kinds.Still)
verb_word x b verbs.Reserve is = (ap kinds.Resv (sym is), λ e. cc)
verb_word x b verbs.Release is = (ap kinds.Resv (sym is), λ e. cc)
verb_word x b verbs.Lock is = (ap kinds.Lock (sym is), λ e. cc)
verb_word x b verbs.Unlock is = (ap kinds.Lock (sym is), λ e. cc)

work_word : (lay : Layout) (x : BoxTable) (b : BoxId) (work : Work) (scan : ℕ) → x.number ≡ b → has_nothing work ≡ false
    → (word_at_work b.0 work ≡ Some (work_target lay x work scan)) × (work_target lay x work scan ≢ kinds.Still)
work_word lay x b Ready scan is busy = absurd (cc)
work_word lay x b (Serve t l) scan is busy = let word = verb_word x b l.verb is in (ap Some word.0, word.1)
work_word lay x b (Say t l answer) scan is busy = (refl, λ e. cc)

-- a mind of a box
pub box_mind : (tables : Tables) (b : BoxId) (mind : Mind) → IsMindOf tables (nodes.Box b) mind → (m : BoxMind) × (mind ≡ Box m)
box_mind tables b (Train m) is = absurd is
box_mind tables b (Track m) is = absurd is
box_mind tables b (Box m) is = (m, refl)
box_mind tables b (Machine m) is = absurd is

module _ (laws : WorkLaws) (tables : Tables) (tries : ℕ) (c : CoreState) (line : IsLine tables)
    (agrees : Agrees (line_of tables) tries (read tables tries c)) (readable : AreReadable tables c)
    (size : length c.words ≡ word_count (layout_of tables)) where
  -- it has a step on the word of the kind at which it looks
  busy_steps : (b : BoxId) (m : BoxMind) (x : BoxTable) (kind : WordKind) → (read tables tries c).boxes b.0 ≡ m → slice_get tables.boxes b.0 ≡ Some x
      → HasWord (layout_of tables) kind → word_at_work b.0 m.work ≡ Some kind → kind ≢ kinds.Still
      → (made : ℕ × BoxMind) × (box_step x m kind (payload_of tables c kind) ≡ Some made)
  busy_steps b m x kind mine there has looks differs =
      let word = readable kind has differs in
      let value = says_read tables tries c kind (payload_of tables c kind) word.0 refl word.1 in
      let kind_is = (laws.words.only kind (payload_of tables c kind) word.0 word.1).kind_is in
      let at_word : word_at_work b.0 ((read tables tries c).boxes b.0).work ≡ Some (kind_of word.0) =
      ap (λ (k : BoxMind). word_at_work b.0 k.work) mine ∙ looks ∙ ap Some (sym kind_is) in
      let found = laws.at_work tables tries (read tables tries c) b.0 x word.0 line agrees there at_word value in
      let step : BoxStep x m word.0 found.next found.after = subst (λ k. BoxStep x k word.0 found.next found.after) mine found.line in
      let packed : PackedStep (BoxStep x m) kind (payload_of tables c kind) (packed_word found.next) found.after =
      record { seen = word.0; left = found.next; reads = word.1; step = step; packs = refl {a = packed_word found.next} } in
      ((packed_word found.next, found.after), (laws.lines x m kind (payload_of tables c kind) (packed_word found.next) found.after).1 packed)

  -- and so makes an event in its turn
  busy_event : (n scan : ℕ) (b : BoxId) (m : BoxMind) (x : BoxTable) (kind : WordKind) → node_at (layout_of tables) n ≡ Some (nodes.Box b) → c.minds n ≡ Box m
      → slice_get tables.boxes b.0 ≡ Some x → box_target (layout_of tables) x m scan ≡ kind → HasWord (layout_of tables) kind
      → word_at_work b.0 m.work ≡ Some kind → kind ≢ kinds.Still
      → (e : Event) × (answer_of_target tables c n (target_of tables n (c.minds n) scan) ≡ Moved e)
  busy_event n scan b m x kind at mind there target_is has looks differs =
      let node = node_at-some (layout_of tables) n (nodes.Box b) at in
      let mine : (read tables tries c).boxes b.0 ≡ m = box_here tables tries c b m node.0 (ap c.minds node.1 ∙ mind) in
      let made = busy_steps b m x kind mine there has looks differs in
      let w : ℕ = word_number (layout_of tables) kind in
      let was : ℕ = slice_index_or c.words (word_number (layout_of tables) kind) 0 in
      let word = word_at-number (layout_of tables) kind has in
      let got = slice_get-get_or c.words (word_number (layout_of tables) kind) 0 (omega (arith, size, number_within (layout_of tables) kind has)) in
      let payload =
      payload_read tables c kind (word_number (layout_of tables) kind) (slice_index_or c.words (word_number (layout_of tables) kind) 0) word got in
      by w was word got (ap (box_step x m kind) (sym payload) ∙ made.1) (ap (word_number (layout_of tables)) target_is)
    where
      by : (w was : ℕ) → word_at (layout_of tables) w ≡ Some kind → slice_get c.words w ≡ Some was → {made : ℕ × BoxMind}
          → box_step x m kind (payload_in was) ≡ Some made
          → word_number (layout_of tables) (box_target (layout_of tables) x m scan) ≡ w
          → (e : Event) × (answer_of_target tables c n (target_of tables n (c.minds n) scan) ≡ Moved e)
      by w was word got {made} steps number =
          let target : target_of tables n (c.minds n) scan ≡ Some w =
          ap (λ k. target_of tables n k scan) mind ∙ box_target_at tables n scan b x m at there ∙ ap Some number in
          let step : node_step tables n (c.minds n) w (payload_in was) ≡ Some (made.0, Box made.1) =
          ap (λ k. node_step tables n k w (payload_in was)) mind ∙ box_step_at tables n w (payload_in was) b x m kind at there word ∙ ap (as_mind Box) steps in
          (event_at n (next_stamp (c.clocks n) was) w was made.0, rw (target, got, step) refl)

  pub busy_moves : AreMinded tables c → (d : Drive) (n : ℕ) (b : BoxId) → node_at (layout_of tables) n ≡ Some (nodes.Box b) → is_ready (c.minds n) ≡ false
      → (e : Event) × (answer_of_target tables c n (target_in tables c d n) ≡ Moved e)
  busy_moves minded d n b at busy =
      let there = (node_at-some (layout_of tables) n (nodes.Box b) at).0 in
      let found = item_there tables.boxes b.0 there in
      let mind = box_mind tables b (c.minds n) (minded n (nodes.Box b) at) in
      let M : Mind → Type 0 = λ k. IsMindOf tables (nodes.Box b) k in
      let sound : IsBoxMind (layout_of tables) found.0 mind.0 = subst M mind.1 (minded n (nodes.Box b) at) found.0 found.1 in
      let number : found.0.number.0 ≡ b.0 = (line.boxes b.0 found.0 found.1).number in
      let named : found.0.number ≡ b = ap (λ (k : ℕ). let made : BoxId = record { 0 = k } in made) number in
      let within : found.0.number.0 < length tables.boxes = omega (arith, there) in
      let work = work_word (layout_of tables) found.0 b mind.0.work (d.scans n) named (sym (ap is_ready mind.1) ∙ busy) in
      busy_event n (d.scans n) b mind.0 found.0 (box_target (layout_of tables) found.0 mind.0 (d.scans n)) at mind.1 found.1 refl
      (box_target_there (layout_of tables) found.0 mind.0.work (d.scans n) within sound.work) work.0 work.1
