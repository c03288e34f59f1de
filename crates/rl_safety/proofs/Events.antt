-- Each event that fits a state is a step of the protocol there.
use Rattle.std.proofs.Common.{◌≡◌, ℕ, ◌+◌, ◌*◌, ◌<◌, nat_lt, true, length, slice_get, Option, Some, None, option_map, refl, sym, ap, ◌∙◌, subst, arith}
use Rattle.std.specs.Prelude.{is_some, unwrap_or}
use Rattle.std.proofs.lemmas.Bool.Decides.{nat_tests}
use Rattle.rl_base.specs.Numbers.{IsU32}
use Rattle.rl_base.specs.declared.ids.BoxId.{BoxId}
use Rattle.rl_base.specs.declared.ids.SegId.{SegId}
use Rattle.rl_base.specs.declared.ids.TrainId.{TrainId}
use Rattle.rl_base.specs.declared.layout.NodeKind.{NodeKind}
use Rattle.rl_base.specs.declared.layout.NodeKind.TheVariants as nodes
use Rattle.rl_base.specs.declared.layout.WordKind.{WordKind}
use Rattle.rl_base.specs.declared.layout.WordKind.TheVariants as kinds
use Rattle.rl_base.specs.declared.kind.Side.TheVariants.{Left}
use Rattle.rl_base.specs.Kind.{arms_of}
use Rattle.rl_base.specs.Layout.{HasWord}
use Rattle.rl_record.specs.declared.event.Event.{Event}
use Rattle.rl_words.specs.declared.lock.LockWord.TheVariants.{Free}
use Rattle.rl_words.specs.declared.mail.MailWord.TheVariants.{Empty}
use Rattle.rl_words.specs.declared.run.RunWord.TheVariants.{Clear, Go, Across}
use Rattle.rl_words.specs.declared.sense.SenseWord.TheVariants.{Quiet}
use Rattle.rl_words.specs.Readings.{read_resv, read_lock, read_mail, read_run, read_sense}
use Rattle.rl_words.specs.Stamps.{payload_in}
use Rattle.rl_words.specs.Word.{Word, IsReading, FitsWord, packed_word, kind_of, read_word}
use Rattle.rl_words.specs.Word.Word.{Resv, Lock, Mail, Run, Sense}
use Rattle.rl_tables.specs.declared.table.BoxTable.{BoxTable}
use Rattle.rl_tables.specs.declared.table.StepRow.{StepRow}
use Rattle.rl_tables.specs.declared.table.TrainTable.{TrainTable}
use Rattle.rl_tables.specs.declared.table.Tables.{Tables}
use Rattle.rl_tables.specs.Kept.{IsLine}
use Rattle.rl_tables.specs.Starts.{layout_of}
use Rattle.rl_tables.specs.Tables.{segment_in}
use Rattle.rl_train.specs.declared.mind.TrainMind.{TrainMind}
use Rattle.rl_train.specs.Kept.{IsTrainOn}
use Rattle.rl_train.specs.Mind.{IsTrainMind}
use Rattle.rl_train.specs.Steps.{train_step}
use Rattle.rl_box.specs.declared.mind.BoxMind.{BoxMind}
use Rattle.rl_box.specs.Mind.{IsBoxMind}
use Rattle.rl_box.specs.Steps.{box_step}
use Rattle.rl_track.specs.declared.track.TrackMind.{TrackMind}
use Rattle.rl_track.specs.declared.track.TrackPhase.TheVariants.{Watch, LeaveDue}
use Rattle.rl_track.specs.declared.machine.MachineMind.{MachineMind}
use Rattle.rl_track.specs.Machine.{machine_step}
use Rattle.rl_track.specs.Track.{track_step, track_at}
use Rattle.rl_steps.specs.declared.mind.Mind.{Mind}
use Rattle.rl_steps.specs.declared.mind.Mind.TheVariants.{Train, Track, Box, Machine}
use Rattle.rl_steps.specs.Numbers.{node_at, word_at}
use Rattle.rl_steps.specs.Sound.{IsMindOf}
use Rattle.rl_steps.specs.Step.{step_of, as_mind}
use Rattle.rl_steps.specs.State.{CoreState, after}
use Rattle.rl_steps.proofs.Keeping.{StepsKeep}
use Rattle.rl_steps.proofs.Made.{IsMade}
use Rattle.rl_steps.proofs.Options.{from_map, from_then, same_some}
use Rattle.rl_protocol.specs.State.{State}
use Rattle.rl_protocol.specs.Steps.{Step, StepFits, next}
use Rattle.rl_protocol.specs.StepMoves as moves
use Rattle.rl_protocol.specs.Nodes.{node_of}
use Rattle.rl_protocol.specs.TableLine.{line_of, row_at}
use Rattle.rl_protocol.specs.Sentences.{StateSays}
use Rattle.rl_safety.proofs.Labels.{IsLabel}
use Rattle.rl_safety.specs.Moves.{move_of}
use Rattle.rl_safety.specs.Reading.{read, payload_of, holder_read}
use Rattle.rl_safety.proofs.BoxLabels.{IsBoxHere, box_label, machine_label}
use Rattle.rl_safety.proofs.Effects.{state_after}
use Rattle.rl_safety.proofs.Minds.{IsBy}
use Rattle.rl_safety.proofs.Payloads.{payload_of_stamped}
use Rattle.rl_protocol.proofs.Labels.{looks_on_is}
use Rattle.rl_safety.proofs.TrainLabels.{IsTrainHere, train_label, track_label}
use Rattle.rl_safety.proofs.Words.{IsOn}

-- the laws of words that are needed here
pub record ReadsWords : Type 0 where
  pub reads : (word : Word) → FitsWord word → read_word (kind_of word) (packed_word word) ≡ Some word
  pub only : (kind : WordKind) (n : ℕ) (word : Word) → read_word kind n ≡ Some word → IsReading kind n word

read_back : ReadsWords → (kind : WordKind) (n : ℕ) (word : Word) → IsReading kind n word → read_word (kind_of word) n ≡ Some word
read_back laws kind n word is = subst (λ (k : ℕ). read_word (kind_of word) k ≡ Some word) is.packed (laws.reads word is.fits)

-- the state says of a word what is read of it
pub says_read : (tables : Tables) (tries : ℕ) (c : CoreState) (kind : WordKind) (payload : ℕ) (seen : Word) → payload_of tables c kind ≡ payload
    → read_word kind payload ≡ Some seen → StateSays (read tables tries c) seen
says_read tables tries c kinds.Still payload seen is reads = absurd (cc)
says_read tables tries c (kinds.Resv b) payload seen is reads =
    let got = from_map (Resv b) (read_resv payload) seen reads in
    let S : Word → Type 0 = λ w. StateSays (read tables tries c) w in
    subst S got.2 (λ x. ap (λ o. holder_read o x) (ap read_resv is ∙ got.1))
says_read tables tries c (kinds.Lock b) payload seen is reads =
    let got = from_map (Lock b) (read_lock payload) seen reads in
    let S : Word → Type 0 = λ w. StateSays (read tables tries c) w in
    subst S got.2 (ap (λ o. unwrap_or o (Free Left)) (ap read_lock is ∙ got.1))
says_read tables tries c (kinds.Mail t) payload seen is reads =
    let got = from_map (Mail t) (read_mail payload) seen reads in
    let S : Word → Type 0 = λ w. StateSays (read tables tries c) w in
    subst S got.2 (ap (λ o. unwrap_or o Empty) (ap read_mail is ∙ got.1))
says_read tables tries c (kinds.Run t) payload seen is reads =
    let got = from_map (Run t) (read_run payload) seen reads in
    let S : Word → Type 0 = λ w. StateSays (read tables tries c) w in
    subst S got.2 (ap (λ o. unwrap_or o (Clear 0)) (ap read_run is ∙ got.1))
says_read tables tries c (kinds.Sense t) payload seen is reads =
    let got = from_map (Sense t) (read_sense payload) seen reads in
    let S : Word → Type 0 = λ w. StateSays (read tables tries c) w in
    subst S got.2 (ap (λ o. unwrap_or o (Quiet 0)) (ap read_sense is ∙ got.1))

-- the minds that the state has
train_here : (tables : Tables) (tries : ℕ) (c : CoreState) (t : TrainId) (m : TrainMind) → t.0 < length tables.trains → c.minds t.0 ≡ Train m
    → (read tables tries c).trains t.0 ≡ m
train_here tables tries c t m there is =
    let test : nat_lt t.0 (length tables.trains) ≡ true = grind (arith, nat_tests) in
    rw (test, is) refl

track_here : (tables : Tables) (tries : ℕ) (c : CoreState) (t : TrainId) (m : TrackMind) → t.0 < length tables.trains
    → c.minds (length tables.trains + t.0) ≡ Track m → (read tables tries c).tracks t.0 ≡ m
track_here tables tries c t m there is =
    let test : nat_lt t.0 (length tables.trains) ≡ true = grind (arith, nat_tests) in
    rw (test, is) refl

pub box_here : (tables : Tables) (tries : ℕ) (c : CoreState) (b : BoxId) (m : BoxMind) → b.0 < length tables.boxes
    → c.minds (2 * length tables.trains + b.0) ≡ Box m → (read tables tries c).boxes b.0 ≡ m
box_here tables tries c b m there is =
    let test : nat_lt b.0 (length tables.boxes) ≡ true = grind (arith, nat_tests) in
    rw (test, is) refl

-- what the line says of a train and a box that are there
steps_there : (tables : Tables) (t : ℕ) (x : TrainTable) → slice_get tables.trains t ≡ Some x → (line_of tables).steps t ≡ length x.rows
steps_there tables t x there = rw there refl

row_there : (tables : Tables) (t k : ℕ) (x : TrainTable) (row : StepRow) → slice_get tables.trains t ≡ Some x → slice_get x.rows k ≡ Some row
    → (line_of tables).row t k ≡ row
row_there tables t k x row there is = rw (there, is) refl

kind_there : (tables : Tables) (b : ℕ) (x : BoxTable) → slice_get tables.boxes b ≡ Some x → (line_of tables).kind b ≡ x.kind
kind_there tables b x there = rw there refl

is_some_map : {A B : Type 0} (f : A → B) (o : Option A) → is_some (option_map f o) ≡ is_some o
is_some_map f None = refl
is_some_map f (Some a) = refl

arms_there : (tables : Tables) (b : ℕ) (x : BoxTable) (i : ℕ) → IsLine tables → slice_get tables.boxes b ≡ Some x
    → (line_of tables).has_arm b i ≡ nat_lt i (arms_of x.kind)
arms_there tables b x i line there = rw there (is_some_map (λ (s : SegId). s.0) (segment_in x i) ∙ (line.boxes b x there).arms i)

-- an event as a step of the protocol, and what its word says after it
pub record IsEventStep (tables : Tables) (tries : ℕ) (c : CoreState) (e : Event) : Type 0 where
  pub step : Step
  pub fits : StepFits (line_of tables) (read tables tries c) step
  pub leaves : read tables tries (after tables c e) ≡ next (line_of tables) (read tables tries c) step
  pub move : move_of tables e ≡ moves.move_of (line_of tables) step
  pub node : NodeKind
  pub at : node_at (layout_of tables) e.node.0 ≡ Some node
  pub by : node_of step ≡ node
  pub left : Word
  pub new : ℕ
  pub on : IsOn tables c e (kind_of left) new
  pub reads : read_word (kind_of left) new ≡ Some left

-- what there is to know of the step of a node
pub record IsStepAt (tables : Tables) (s : State) (node : NodeKind) (kind : WordKind) (payload : ℕ) (made : ℕ × Mind) : Type 0 where
  pub seen : Word
  pub left : Word
  pub saw : read_word kind payload ≡ Some seen
  pub kind_left : kind_of left ≡ kind
  pub reads : read_word (kind_of left) made.0 ≡ Some left
  pub small : IsU32 made.0
  pub mind : IsMindOf tables node made.1
  pub label : IsLabel tables s node made.1 seen left

pub from_step : (tables : Tables) (tries : ℕ) (c : CoreState) (e : Event) (node : NodeKind) (kind : WordKind) (made : IsMade tables c e)
    → node_at (layout_of tables) e.node.0 ≡ Some node → word_at (layout_of tables) e.word.0 ≡ Some kind
    → IsStepAt tables (read tables tries c) node kind (payload_in e.was) made.made → IsEventStep tables tries c e
from_step tables tries c e node kind made at word there =
    let by : IsBy tables c e node made.made.1 = record { at = at; mind_is = made.mind } in
    let word_left : word_at (layout_of tables) e.word.0 ≡ Some (kind_of there.left) = word ∙ ap Some (sym there.kind_left) in
    let on : IsOn tables c e (kind_of there.left) made.made.0 = record { at = word_left; was = made.was; now = made.now; small = there.small } in
    let after_is = state_after tables tries c e node made.made.1 made.made.0 there.left by there.mind on there.reads in
    let now : payload_in e.now ≡ made.made.0 = ap payload_in made.now ∙ payload_of_stamped e.stamp made.made.0 there.small in
    let reads_now : read_word kind (payload_in e.now) ≡ Some there.left =
    ap (read_word kind) now ∙ (ap (λ k. read_word k made.made.0) (sym there.kind_left) ∙ there.reads) in
    record {
      step = there.label.step;
      fits = there.label.fits;
      leaves = after_is ∙ sym there.label.leaves;
      move = rw (word, there.saw, reads_now) (sym there.label.moves);
      node = node;
      at = at;
      by = there.label.by;
      left = there.left;
      new = made.made.0;
      on = on;
      reads = there.reads;
    }

-- the steps of the four kinds of node
pub train_event : StepsKeep → ReadsWords → (tables : Tables) (tries : ℕ) (c : CoreState) (t : TrainId) (m : TrainMind) (kind : WordKind) (payload : ℕ)
    (made : ℕ × Mind) → IsLine tables → t.0 < length tables.trains → c.minds t.0 ≡ Train m → IsMindOf tables (nodes.Train t) (Train m)
    → payload_of tables c kind ≡ payload → step_of tables (nodes.Train t) (Train m) kind payload ≡ Some made
    → IsStepAt tables (read tables tries c) (nodes.Train t) kind payload made
train_event laws words tables tries c t m kind payload made line there mind sound is step =
    let found = from_then (λ (x : TrainTable). as_mind Train (train_step x m kind payload)) (slice_get tables.trains t.0) made step in
    let x : TrainTable = found.0 in
    let stepped = from_map (λ (r : ℕ × TrainMind). let pair : ℕ × Mind = (r.0, Train r.1) in pair) (train_step x m kind payload) made found.2 in
    let number : x.number.0 ≡ t.0 = (line.trains t.0 x found.1).number in
    let named : x.number ≡ t = ap (λ (n : ℕ). let made : TrainId = record { 0 = n } in made) number in
    let within : x.number.0 < length tables.trains = omega arith in
    let on : IsTrainOn (layout_of tables) x m = record {
      boxes = line.few_boxes;
      trains = line.few_trains;
      there = within;
      table_is = laws.tables tables t.0 x line found.1;
      mind_is = sound x found.1;
    } in
    let kept = laws.trains (layout_of tables) x m kind payload stepped.0.0 stepped.0.1 on stepped.1 in
    let says = says_read tables tries c kind payload kept.seen is kept.saw in
    let there_at : slice_get tables.trains x.number.0 ≡ Some x = ap (λ n. slice_get tables.trains n) number ∙ found.1 in
    let here : IsTrainHere tables (read tables tries c) x m = record {
      mind = ap (read tables tries c).trains number ∙ train_here tables tries c t m there mind;
      steps = steps_there tables x.number.0 x there_at;
      row = λ row row_is. row_there tables x.number.0 m.step x row there_at row_is;
      on = looks_on_is tables x.number.0 x m there_at;
    } in
    let label = train_label tables (read tables tries c) x m stepped.0.1 kept.seen kept.left here says kept.step in
    let mine : IsMindOf tables (nodes.Train t) (Train stepped.0.1) =
    λ y y_is. subst (λ (z : TrainTable). IsTrainMind z stepped.0.1) (same_some (slice_get tables.trains t.0) x y found.1 y_is) kept.after_is in
    let P : ℕ × Mind → Type 0 = λ r. IsStepAt tables (read tables tries c) (nodes.Train t) kind payload r in
    let L : TrainId → Type 0 = λ u. IsLabel tables (read tables tries c) (nodes.Train u) (Train stepped.0.1) kept.seen kept.left in
    subst P stepped.2 record {
      seen = kept.seen;
      left = kept.left;
      saw = kept.saw;
      kind_left = kept.reads.kind_is;
      reads = read_back words kind stepped.0.0 kept.left kept.reads;
      small = kept.small;
      mind = mine;
      label = subst L named label;
    }

pub track_event : StepsKeep → ReadsWords → (tables : Tables) (tries : ℕ) (c : CoreState) (t : TrainId) (m : TrackMind) (kind : WordKind) (payload : ℕ)
    (made : ℕ × Mind) → t.0 < length tables.trains → c.minds (length tables.trains + t.0) ≡ Track m → IsMindOf tables (nodes.Track t) (Track m)
    → ((k : ℕ) → m ≡ track_at k Watch → (read tables tries c).run t.0 ≡ Go k → row_at tables t.0 k ≡ Some ((line_of tables).row t.0 k))
    → ((k : ℕ) → m ≡ track_at k LeaveDue → (read tables tries c).run t.0 ≡ Across k → row_at tables t.0 k ≡ Some ((line_of tables).row t.0 k))
    → payload_of tables c kind ≡ payload → step_of tables (nodes.Track t) (Track m) kind payload ≡ Some made
    → IsStepAt tables (read tables tries c) (nodes.Track t) kind payload made
track_event laws words tables tries c t m kind payload made there mind sound enters leaves is step =
    let stepped = from_map (λ (r : ℕ × TrackMind). let pair : ℕ × Mind = (r.0, Track r.1) in pair) (track_step t m kind payload) made step in
    let kept = laws.tracks (layout_of tables) t m kind payload stepped.0.0 stepped.0.1 there sound stepped.1 in
    let says = says_read tables tries c kind payload kept.seen is kept.saw in
    let P : ℕ × Mind → Type 0 = λ r. IsStepAt tables (read tables tries c) (nodes.Track t) kind payload r in
    subst P stepped.2 record {
      seen = kept.seen;
      left = kept.left;
      saw = kept.saw;
      kind_left = kept.reads.kind_is;
      reads = read_back words kind stepped.0.0 kept.left kept.reads;
      small = kept.small;
      mind = kept.after_is;
      label = track_label tables (read tables tries c) t m stepped.0.1 kept.seen kept.left
          (track_here tables tries c t m there mind) says enters leaves kept.step;
    }

pub box_event : StepsKeep → ReadsWords → (tables : Tables) (tries : ℕ) (c : CoreState) (b : BoxId) (m : BoxMind) (kind : WordKind)
    (payload : ℕ) (made : ℕ × Mind) → IsLine tables → HasWord (layout_of tables) kind → b.0 < length tables.boxes
    → c.minds (2 * length tables.trains + b.0) ≡ Box m → IsMindOf tables (nodes.Box b) (Box m) → payload_of tables c kind ≡ payload
    → step_of tables (nodes.Box b) (Box m) kind payload ≡ Some made → IsStepAt tables (read tables tries c) (nodes.Box b) kind payload made
box_event laws words tables tries c b m kind payload made line has there mind sound is step =
    let found = from_then (λ (x : BoxTable). as_mind Box (box_step x m kind payload)) (slice_get tables.boxes b.0) made step in
    let x : BoxTable = found.0 in
    let stepped = from_map (λ (r : ℕ × BoxMind). let pair : ℕ × Mind = (r.0, Box r.1) in pair) (box_step x m kind payload) made found.2 in
    let number : x.number.0 ≡ b.0 = (line.boxes b.0 x found.1).number in
    let named : x.number ≡ b = ap (λ (n : ℕ). let made : BoxId = record { 0 = n } in made) number in
    let within : x.number.0 < length tables.boxes = omega arith in
    let kept =
    laws.boxes (layout_of tables) x m kind payload stepped.0.0 stepped.0.1
    (record { boxes = line.few_boxes; trains = line.few_trains; there = within; mind_is = sound x found.1; word = has }) stepped.1 in
    let says = says_read tables tries c kind payload kept.seen is kept.saw in
    let there_at : slice_get tables.boxes x.number.0 ≡ Some x = ap (λ n. slice_get tables.boxes n) number ∙ found.1 in
    let here : IsBoxHere tables (layout_of tables) (read tables tries c) x m = record {
      mind = ap (read tables tries c).boxes number ∙ box_here tables tries c b m there mind;
      kind = kind_there tables x.number.0 x there_at;
      arms = λ i. arms_there tables x.number.0 x i line there_at;
      work = (sound x found.1).work;
    } in
    let label = box_label tables (layout_of tables) (read tables tries c) x m stepped.0.1 kept.seen kept.left here says kept.step in
    let mine : IsMindOf tables (nodes.Box b) (Box stepped.0.1) =
    λ y y_is. subst (λ (z : BoxTable). IsBoxMind (layout_of tables) z stepped.0.1) (same_some (slice_get tables.boxes b.0) x y found.1 y_is) kept.after_is in
    let P : ℕ × Mind → Type 0 = λ r. IsStepAt tables (read tables tries c) (nodes.Box b) kind payload r in
    let L : BoxId → Type 0 = λ u. IsLabel tables (read tables tries c) (nodes.Box u) (Box stepped.0.1) kept.seen kept.left in
    subst P stepped.2 record {
      seen = kept.seen;
      left = kept.left;
      saw = kept.saw;
      kind_left = kept.reads.kind_is;
      reads = read_back words kind stepped.0.0 kept.left kept.reads;
      small = kept.small;
      mind = mine;
      label = subst L named label;
    }

pub machine_event : StepsKeep → ReadsWords → (tables : Tables) (tries : ℕ) (c : CoreState) (b : BoxId) (m : MachineMind) (kind : WordKind)
    (payload : ℕ) (made : ℕ × Mind) → b.0 < length tables.boxes → payload_of tables c kind ≡ payload
    → step_of tables (nodes.Machine b) (Machine m) kind payload ≡ Some made
    → IsStepAt tables (read tables tries c) (nodes.Machine b) kind payload made
machine_event laws words tables tries c b m kind payload made there is step =
    let stepped = from_map (λ (r : ℕ × MachineMind). let pair : ℕ × Mind = (r.0, Machine r.1) in pair) (machine_step b m kind payload) made step in
    let kept = laws.machines (layout_of tables) b m kind payload stepped.0.0 stepped.0.1 there stepped.1 in
    let says = says_read tables tries c kind payload kept.seen is kept.saw in
    let P : ℕ × Mind → Type 0 = λ r. IsStepAt tables (read tables tries c) (nodes.Machine b) kind payload r in
    subst P stepped.2 record {
      seen = kept.seen;
      left = kept.left;
      saw = kept.saw;
      kind_left = kept.reads.kind_is;
      reads = read_back words kind stepped.0.0 kept.left kept.reads;
      small = kept.small;
      mind = tt;
      label = machine_label tables (read tables tries c) b m stepped.0.1 kept.seen kept.left says kept.step;
    }
