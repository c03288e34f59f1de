-- A ready box has a step on the mailbox in which it is asked.
use Rattle.std.proofs.Common.{◌≡◌, ℕ, ◌<◌, ◌≤◌, true, length, slice_get, Option, Some, None, refl, sym, ap, ◌∙◌, subst, ⊎_elim, arith}
use Rattle.std.specs.Prelude.{unwrap_or, option_map}
use Rattle.std.proofs.lemmas.Bool.{cases_lt}
use Rattle.rl_base.specs.declared.ids.BoxId.{BoxId}
use Rattle.rl_base.specs.declared.layout.NodeKind.TheVariants as nodes
use Rattle.rl_base.specs.declared.layout.WordKind.TheVariants as kinds
use Rattle.rl_base.specs.Layout.{word_number}
use Rattle.rl_words.specs.declared.mail.Letter.{Letter}
use Rattle.rl_words.specs.declared.mail.MailWord.{MailWord}
use Rattle.rl_words.specs.declared.mail.MailWord.TheVariants.{Empty, Ask}
use Rattle.rl_words.specs.Word.{PackedStep, read_word, packed_word}
use Rattle.rl_words.specs.Word.Word.{Mail}
use Rattle.rl_words.specs.Readings.{read_mail}
use Rattle.rl_tables.specs.declared.table.Tables.{Tables}
use Rattle.rl_tables.specs.Kept.{IsLine}
use Rattle.rl_tables.specs.Starts.{layout_of}
use Rattle.rl_box.specs.declared.mind.BoxMind.{BoxMind}
use Rattle.rl_box.specs.declared.mind.Work.{Work}
use Rattle.rl_box.specs.declared.mind.Work.TheVariants.{Ready, Serve, Say}
use Rattle.rl_box.specs.Steps.{BoxStep, box_step}
use Rattle.rl_steps.specs.declared.mind.Mind.TheVariants.{Box}
use Rattle.rl_steps.specs.Numbers.{node_at}
use Rattle.rl_steps.specs.State.{CoreState}
use Rattle.rl_steps.specs.Step.{node_step, as_mind, has_nothing, is_ready}
use Rattle.rl_steps.proofs.ByKind.{box_step_at}
use Rattle.rl_steps.proofs.Numbering.{node_at-some, word_at-number}
use Rattle.rl_steps.proofs.Sounding.{AreMinded}
use Rattle.rl_protocol.specs.Agreement.{Agrees}
use Rattle.rl_protocol.specs.Minds.{train}
use Rattle.rl_protocol.specs.TableLine.{line_of}
use Rattle.rl_protocol.proofs.Known.{asked}
use Rattle.rl_protocol.proofs.Moved.{item_there}
use Rattle.rl_protocol.proofs.Paths.{waiting_within}
use Rattle.rl_protocol.proofs.TableLines.{few_trains}
use Rattle.rl_safety.specs.AtWork.{CanStep}
use Rattle.rl_safety.specs.Reading.{read, payload_of, mail_in}
use Rattle.rl_safety.proofs.AtWork.{WorkLaws, box_mind}
use Rattle.rl_safety.proofs.Events.{box_here}

-- a mailbox that says an Ask is read
mail_read : (o : Option MailWord) (l : Letter) → unwrap_or o Empty ≡ Ask l → o ≡ Some (Ask l)
mail_read None l h = absurd (cc)
mail_read (Some v) l h = ap Some h

-- a box with nothing in hand is ready
work_ready : (work : Work) → has_nothing work ≡ true → work ≡ Ready
work_ready Ready h = refl
work_ready (Serve t l) h = absurd (cc)
work_ready (Say t l answer) h = absurd (cc)

module _ (laws : WorkLaws) (tables : Tables) (tries : ℕ) (c : CoreState) (line : IsLine tables)
    (agrees : Agrees (line_of tables) tries (read tables tries c)) (minded : AreMinded tables c) where
  -- the train that asks is one of the line
  asking_there : (t : ℕ) (l : Letter) → mail_in tables c t ≡ Ask l → t < length tables.trains
  asking_there t l mail =
      let waits = asked (line_of tables) (read tables tries c) t l agrees.mailboxes (λ u. (agrees.attempts u).ahead) mail in
      let within = waiting_within (line_of tables) tries (read tables tries c) t agrees waits.waits in
      ⊎_elim (λ h. h) (λ h. let none = few_trains tables t h in absurd (omega (arith, within, none))) (cases_lt t (length tables.trains))

  pub asked_can_step : (n t : ℕ) (l : Letter) → node_at (layout_of tables) n ≡ Some (nodes.Box l.to) → is_ready (c.minds n) ≡ true
      → mail_in tables c t ≡ Ask l → CanStep tables c n (kinds.Mail (train t))
  asked_can_step n t l at ready mail =
      let b = l.to in
      let node = node_at-some (layout_of tables) n (nodes.Box l.to) at in
      let found = item_there tables.boxes l.to.0 node.0 in
      let mind = box_mind tables l.to (c.minds n) (minded n (nodes.Box l.to) at) in
      let mine : (read tables tries c).boxes l.to.0 ≡ mind.0 = box_here tables tries c l.to mind.0 node.0 (ap c.minds node.1 ∙ mind.1) in
      let work : mind.0.work ≡ Ready = work_ready mind.0.work (sym (ap is_ready mind.1) ∙ ready) in
      let has = laws.asked tables tries (read tables tries c) t l found.0 line agrees found.1 mail (ap (λ (m : BoxMind). m.work) mine ∙ work) in
      let step : BoxStep found.0 mind.0 (Mail (train t) (Ask l)) has.next has.after =
      subst (λ m. BoxStep found.0 m (Mail (train t) (Ask l)) has.next has.after) mine has.line in
      let kind = kinds.Mail (train t) in
      let payload : ℕ = payload_of tables c (kinds.Mail (train t)) in
      let reads : read_word (kinds.Mail (train t)) (payload_of tables c (kinds.Mail (train t))) ≡ Some (Mail (train t) (Ask l)) =
      ap (option_map (Mail (train t))) (mail_read (read_mail (payload_of tables c (kinds.Mail (train t)))) l mail) in
      let packed : PackedStep (BoxStep found.0 mind.0) (kinds.Mail (train t)) (payload_of tables c (kinds.Mail (train t))) (packed_word has.next) has.after =
      record { seen = Mail (train t) (Ask l); left = has.next; reads = reads; step = step; packs = refl {a = packed_word has.next} } in
      let made : box_step found.0 mind.0 (kinds.Mail (train t)) (payload_of tables c (kinds.Mail (train t))) ≡ Some (packed_word has.next, has.after) =
      (laws.lines found.0 mind.0 (kinds.Mail (train t)) (payload_of tables c (kinds.Mail (train t))) (packed_word has.next) has.after).1 packed in
      let word = word_at-number (layout_of tables) (kinds.Mail (train t)) (asking_there t l mail) in
      let w : ℕ = word_number (layout_of tables) (kinds.Mail (train t)) in
      record {
        payload = packed_word has.next;
        mind = Box has.after;
        step =
            ap (λ k. node_step tables n k (word_number (layout_of tables) (kinds.Mail (train t))) (payload_of tables c (kinds.Mail (train t)))) mind.1
            ∙ box_step_at tables n (word_number (layout_of tables) (kinds.Mail (train t))) (payload_of tables c (kinds.Mail (train t))) l.to found.0 mind.0
            (kinds.Mail (train t)) at found.1 word
            ∙ ap (as_mind Box) made;
      }
