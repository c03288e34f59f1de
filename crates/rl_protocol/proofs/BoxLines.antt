-- A step of a box that fits is a line of its sentences.
use Rattle.std.proofs.Common.{◌≡◌, ℕ, Bool, true, false, slice_get, Option, Some, None, refl, sym, ap, ◌∙◌, subst, inl, inr, ◌⊎◌, arith}
use Rattle.std.proofs.lemmas.Bool.{and_parts, and_from}
use Rattle.rl_base.specs.declared.ids.BoxId.{BoxId}
use Rattle.rl_base.specs.declared.ids.TrainId.{TrainId}
use Rattle.rl_base.specs.declared.job.Verb.{Verb}
use Rattle.rl_base.specs.declared.job.Verb.TheVariants as verbs
use Rattle.rl_base.specs.declared.kind.Side.{Side}
use Rattle.rl_base.specs.declared.layout.NodeKind.TheVariants as nodes
use Rattle.rl_base.specs.declared.layout.WordKind.{WordKind}
use Rattle.rl_base.specs.declared.layout.WordKind.TheVariants as words
use Rattle.rl_base.specs.Kind.{arms_join, joining_side}
use Rattle.rl_words.specs.declared.lock.LockWord.{LockWord}
use Rattle.rl_words.specs.declared.mail.MailWord.{MailWord}
use Rattle.rl_words.specs.declared.lock.LockWord.TheVariants.{Free, Asked, Moved, Locked}
use Rattle.rl_words.specs.declared.mail.Letter.{Letter}
use Rattle.rl_words.specs.declared.mail.MailWord.TheVariants as mails
use Rattle.rl_words.specs.declared.resv.ResvWord.{ResvWord}
use Rattle.rl_words.specs.Mail.{IsRefusable}
use Rattle.rl_words.specs.Resv.{arm_in, with_arm}
use Rattle.rl_words.specs.Word.{Word, kind_of}
use Rattle.rl_words.specs.Word.Word.{Resv, Lock, Mail, Run, Sense}
use Rattle.rl_tables.specs.declared.table.BoxTable.{BoxTable}
use Rattle.rl_tables.specs.declared.table.Tables.{Tables}
use Rattle.rl_tables.specs.Kept.{IsLine}
use Rattle.rl_box.specs.declared.mind.Answer.TheVariants as answers
use Rattle.rl_box.specs.declared.mind.BoxMind.{BoxMind}
use Rattle.rl_box.specs.declared.mind.Work.{Work}
use Rattle.rl_box.specs.declared.mind.Work.TheVariants.{Ready, Serve, Say}
use Rattle.rl_box.specs.Mind.{box_at}
use Rattle.rl_box.specs.Steps.{BoxStep, has_arms, path_of, other_side}
use Rattle.rl_box.specs.Steps.BoxStep.{take as takes, reserve as reserves, refuse as refuses, release as releases, lock as lock_it, ask as asks_points}
use Rattle.rl_box.specs.Steps.BoxStep.{moved as sees_moved, unlock as unlocks, say_yes as says_yes, say_refused as says_refused, say_barred as says_barred}
use Rattle.rl_box.specs.Steps.BoxStep.{busy as is_busy}
use Rattle.rl_protocol.specs.State.{State}
use Rattle.rl_protocol.specs.Minds.{train, box, names_arms}
use Rattle.rl_protocol.specs.Steps.{Step, post, hear_yes, hear_no, go, quiet, take, grant, refuse, release, lock_now, lock_ask, lock_moved, unlock, say_yes}
use Rattle.rl_protocol.specs.Steps.{say_no, busy, throw, settle, enter, head, leave, tail, StepFits}
use Rattle.rl_protocol.specs.Nodes.{node_of, word_of}
use Rattle.rl_protocol.specs.Agreement.{Agrees}
use Rattle.std.proofs.lemmas.Option.{same_Some}
use Rattle.rl_protocol.specs.AtWork.{word_for, word_at_work}
use Rattle.rl_protocol.proofs.Asked.{asked_steps}
use Rattle.rl_protocol.proofs.Served.{at_work}
use Rattle.rl_protocol.proofs.TableLines.{consistent_line}
use Rattle.rl_protocol.specs.TableLine.{line_of}
use Rattle.rl_protocol.specs.Sentences.{holder_in, StateSays, HasLine}
use Rattle.rl_protocol.proofs.BoxLabels.{kind_is, arm_is, four, four_arms}

-- a mind by its work
mind_is : (m : BoxMind) (work : Work) → m.work ≡ work → m ≡ box_at work m.waiting
mind_is m work h = ap (λ w. box_at w m.waiting) h

-- boxes that are one node are one
same_box : (c b : ℕ) → nodes.Box (box c) ≡ nodes.Box (box b) → c ≡ b
same_box c b h = grind arith

module _ (tables : Tables) (s : State) (b : ℕ) (table : BoxTable) (line : IsLine tables) (there : slice_get tables.boxes b ≡ Some table)
    (number : table.number ≡ box b) where
  -- a line at the mind and the word as they are in the state
  at_resv : (w v : ResvWord) (before after : BoxMind) → s.boxes b ≡ before → BoxStep table before (Resv table.number w) (Resv table.number v) after
      → HasLine table (s.boxes b) (Resv (box b) w)
  at_resv w v before after is line =
      subst (λ m. HasLine table m (Resv (box b) w)) (sym is)
      (subst (λ n. HasLine table before (Resv n w)) number (record { next = Resv table.number v; after = after; line = line }))

  at_lock : (w v : LockWord) (before after : BoxMind) → s.boxes b ≡ before → BoxStep table before (Lock table.number w) (Lock table.number v) after
      → HasLine table (s.boxes b) (Lock (box b) w)
  at_lock w v before after is line =
      subst (λ m. HasLine table m (Lock (box b) w)) (sym is)
      (subst (λ n. HasLine table before (Lock n w)) number (record { next = Lock table.number v; after = after; line = line }))

  at_mail : (t : TrainId) (w v : MailWord) (before after : BoxMind) → s.boxes b ≡ before → BoxStep table before (Mail t w) (Mail t v) after
      → HasLine table (s.boxes b) (Mail t w)
  at_mail t w v before after is line = subst (λ m. HasLine table m (Mail t w)) (sym is) (record { next = Mail t v; after = after; line = line })

  joins_back : (l : Letter) (side : Side) (answer : Bool) → arms_join ((line_of tables).kind b) l.x.0 l.y.0 side ≡ answer
      → arms_join table.kind l.x.0 l.y.0 side ≡ answer
  joins_back l side answer h = ap (λ k. arms_join k l.x.0 l.y.0 side) (sym (kind_is tables s b table line there number)) ∙ h

  names_back : (l : Letter) → l.to.0 ≡ b → names_arms (line_of tables) l ≡ true → has_arms table l ≡ true
  names_back l to h =
      let parts = and_parts _ _ h in
      and_from _ _ (sym (arm_is tables s b table line there number l.x.0) ∙ subst (λ n. (line_of tables).has_arm n l.x.0 ≡ true) to parts.0)
      (sym (arm_is tables s b table line there number l.y.0) ∙ subst (λ n. (line_of tables).has_arm n l.y.0 ≡ true) to parts.1)

  -- the arm of a letter in hand, by the word
  holds_back : (tries : ℕ) (t : ℕ) (l : Letter) (w : ResvWord) (o : Option TrainId) → Agrees (line_of tables) tries s → (s.boxes b).work ≡ Serve (train t) l
      → ((x : ℕ) → s.resv b x ≡ holder_in w x) → s.resv b l.x.0 ≡ o → arm_in w l.x.0 ≡ o
  holds_back tries t l w o agrees work has held =
      let below = four tables s b table line there number tries agrees (train t) l (s.boxes b).waiting (mind_is (s.boxes b) (Serve (train t) l) work) in
      sym (four_arms w l.x.0 below) ∙ sym (has l.x.0) ∙ held

  -- a line at the mail word of a train, by its id
  at_train : (t : ℕ) (u : TrainId) → words.Mail (train t) ≡ words.Mail u → (v w : MailWord) → s.mail t ≡ v → s.mail u.0 ≡ w
      → HasLine table (s.boxes b) (Mail (train t) v) → HasLine table (s.boxes b) (Mail u w)
  at_train t u e v w at_t at_u line =
      let same : train t ≡ u = grind arith in
      let word : v ≡ w = sym at_t ∙ ap (λ (n : TrainId). s.mail n.0) same ∙ at_u in
      subst (λ n. HasLine table (s.boxes b) (Mail n w)) same (subst (λ z. HasLine table (s.boxes b) (Mail (train t) z)) word line)

  -- the lines of a box, at its words
  resv_line : (tries : ℕ) (step : Step) (w : ResvWord) → Agrees (line_of tables) tries s → StepFits (line_of tables) s step → node_of step ≡ nodes.Box (box b)
      → word_of step ≡ words.Resv (box b) → ((x : ℕ) → s.resv b x ≡ holder_in w x) → HasLine table (s.boxes b) (Resv (box b) w)
  resv_line tries (grant c t l) w agrees fits node word has =
      let fit = subst (λ n. StepFits (line_of tables) s (grant n t l)) (same_box c b node) fits in
      at_resv w (with_arm w l.x.0 (Some (train t))) _ _ (mind_is (s.boxes b) _ fit.0)
      (reserves (train t) l (s.boxes b).waiting w fit.1 (holds_back tries t l w None agrees fit.0 has fit.2))
  resv_line tries (refuse c t l u) w agrees fits node word has =
      let fit = subst (λ n. StepFits (line_of tables) s (refuse n t l u)) (same_box c b node) fits in
      at_resv w w _ _ (mind_is (s.boxes b) _ fit.0)
      (refuses (train t) u l (s.boxes b).waiting w fit.1 (holds_back tries t l w (Some u) agrees fit.0 has fit.2) (λ e. fit.3 (ap (λ n. n.0) e)))
  resv_line tries (release c t l) w agrees fits node word has =
      let fit = subst (λ n. StepFits (line_of tables) s (release n t l)) (same_box c b node) fits in
      at_resv w (with_arm w l.x.0 None) _ _ (mind_is (s.boxes b) _ fit.0)
      (releases (train t) l (s.boxes b).waiting w fit.1 (holds_back tries t l w (Some (train t)) agrees fit.0 has fit.2))
  resv_line tries (post t l) w agrees fits node word has = absurd (cc)
  resv_line tries (hear_yes t l) w agrees fits node word has = absurd (cc)
  resv_line tries (hear_no t l u job) w agrees fits node word has = absurd (cc)
  resv_line tries (go t) w agrees fits node word has = absurd (cc)
  resv_line tries (quiet t) w agrees fits node word has = absurd (cc)
  resv_line tries (take c t l) w agrees fits node word has = absurd (cc)
  resv_line tries (lock_now c t l side) w agrees fits node word has = absurd (cc)
  resv_line tries (lock_ask c t l side) w agrees fits node word has = absurd (cc)
  resv_line tries (lock_moved c p) w agrees fits node word has = absurd (cc)
  resv_line tries (unlock c t l side) w agrees fits node word has = absurd (cc)
  resv_line tries (say_yes c t l) w agrees fits node word has = absurd (cc)
  resv_line tries (say_no c t l u) w agrees fits node word has = absurd (cc)
  resv_line tries (busy c t l p) w agrees fits node word has = absurd (cc)
  resv_line tries (throw c p) w agrees fits node word has = absurd (cc)
  resv_line tries (settle c p) w agrees fits node word has = absurd (cc)
  resv_line tries (enter t k) w agrees fits node word has = absurd (cc)
  resv_line tries (head t k) w agrees fits node word has = absurd (cc)
  resv_line tries (leave t k) w agrees fits node word has = absurd (cc)
  resv_line tries (tail t k) w agrees fits node word has = absurd (cc)

  lock_line : (step : Step) (w : LockWord) → StepFits (line_of tables) s step → node_of step ≡ nodes.Box (box b)
      → word_of step ≡ words.Lock (box b) → s.lock b ≡ w
      → HasLine table (s.boxes b) (Lock (box b) w)
  lock_line (lock_now c t l side) w fits node word has =
      let fit = subst (λ n. StepFits (line_of tables) s (lock_now n t l side)) (same_box c b node) fits in
      subst (λ v. HasLine table (s.boxes b) (Lock (box b) v)) (sym fit.2 ∙ has)
      (at_lock (Free side) (Locked (path_of (train t) l)) _ _ fit.0 (lock_it (train t) l side fit.1 (joins_back l side true fit.3)))
  lock_line (lock_ask c t l side) w fits node word has =
      let fit = subst (λ n. StepFits (line_of tables) s (lock_ask n t l side)) (same_box c b node) fits in
      subst (λ v. HasLine table (s.boxes b) (Lock (box b) v)) (sym fit.2 ∙ has)
      (at_lock (Free side) (Asked (path_of (train t) l)) _ _ fit.0
      (asks_points (train t) l side fit.1 (joins_back l side false fit.3) (joins_back l (other_side side) true fit.4)))
  lock_line (lock_moved c p) w fits node word has =
      let fit = subst (λ n. StepFits (line_of tables) s (lock_moved n p)) (same_box c b node) fits in
      subst (λ v. HasLine table (s.boxes b) (Lock (box b) v)) (sym fit.1 ∙ has)
      (at_lock (Moved p) (Locked p) _ _ fit.0 (sees_moved p))
  lock_line (unlock c t l side) w fits node word has =
      let fit = subst (λ n. StepFits (line_of tables) s (unlock n t l side)) (same_box c b node) fits in
      subst (λ v. HasLine table (s.boxes b) (Lock (box b) v)) (sym fit.2 ∙ has)
      (at_lock (Locked (path_of (train t) l)) (Free side) _ _ fit.0
      (unlocks (train t) l side fit.1 (ap (λ k. joining_side k l.x.0 l.y.0) (sym (kind_is tables s b table line there number)) ∙ fit.3)))
  lock_line (busy c t l p) w fits node word has =
      let fit = subst (λ n. StepFits (line_of tables) s (busy n t l p)) (same_box c b node) fits in
      subst (λ v. HasLine table (s.boxes b) (Lock (box b) v)) (sym fit.2 ∙ has)
      (at_lock (Locked p) (Locked p) _ _ fit.0 (is_busy (train t) l p fit.1 (λ e. fit.3 (ap (λ n. n.0) e))))
  lock_line (post t l) w fits node word has = absurd (cc)
  lock_line (hear_yes t l) w fits node word has = absurd (cc)
  lock_line (hear_no t l u job) w fits node word has = absurd (cc)
  lock_line (go t) w fits node word has = absurd (cc)
  lock_line (quiet t) w fits node word has = absurd (cc)
  lock_line (take c t l) w fits node word has = absurd (cc)
  lock_line (grant c t l) w fits node word has = absurd (cc)
  lock_line (refuse c t l u) w fits node word has = absurd (cc)
  lock_line (release c t l) w fits node word has = absurd (cc)
  lock_line (say_yes c t l) w fits node word has = absurd (cc)
  lock_line (say_no c t l u) w fits node word has = absurd (cc)
  lock_line (throw c p) w fits node word has = absurd (cc)
  lock_line (settle c p) w fits node word has = absurd (cc)
  lock_line (enter t k) w fits node word has = absurd (cc)
  lock_line (head t k) w fits node word has = absurd (cc)
  lock_line (leave t k) w fits node word has = absurd (cc)
  lock_line (tail t k) w fits node word has = absurd (cc)

  -- a No to a reservation, or to a lock
  no_line : (t : ℕ) (l : Letter) (u : TrainId) (v : Verb) → l.verb ≡ v → IsRefusable v → (s.boxes b).work ≡ Say (train t) l (answers.No u)
      → HasLine table (s.boxes b) (Mail (train t) (mails.Taken l))
  no_line t l u verbs.Reserve e may work =
      at_mail (train t) (mails.Taken l) (mails.No l u) _ _ (mind_is (s.boxes b) _ work) (says_refused (train t) u l (s.boxes b).waiting e)
  no_line t l u verbs.Lock e may work =
      at_mail (train t) (mails.Taken l) (mails.No l u) _ _ (mind_is (s.boxes b) _ work) (says_barred (train t) u l (s.boxes b).waiting e)
  no_line t l u verbs.Release e may work = absurd may
  no_line t l u verbs.Unlock e may work = absurd may

  mail_line : (step : Step) (u : TrainId) (w : MailWord) → StepFits (line_of tables) s step → node_of step ≡ nodes.Box (box b) → word_of step ≡ words.Mail u
      → s.mail u.0 ≡ w → HasLine table (s.boxes b) (Mail u w)
  mail_line (take c t l) u w fits node word has =
      let fit = subst (λ n. StepFits (line_of tables) s (take n t l)) (same_box c b node) fits in
      at_train t u word (mails.Ask l) w fit.1 has
      (at_mail (train t) (mails.Ask l) (mails.Taken l) _ _ (mind_is (s.boxes b) _ fit.0)
      (takes (train t) l (s.boxes b).waiting (ap (λ n. box n) fit.2 ∙ sym number) (names_back l fit.2 fit.3)))
  mail_line (say_yes c t l) u w fits node word has =
      let fit = subst (λ n. StepFits (line_of tables) s (say_yes n t l)) (same_box c b node) fits in
      at_train t u word (mails.Taken l) w fit.1 has
      (at_mail (train t) (mails.Taken l) (mails.Yes l) _ _ (mind_is (s.boxes b) _ fit.0) (says_yes (train t) l (s.boxes b).waiting))
  mail_line (say_no c t l v) u w fits node word has =
      let fit = subst (λ n. StepFits (line_of tables) s (say_no n t l v)) (same_box c b node) fits in
      at_train t u word (mails.Taken l) w fit.2 has (no_line t l v l.verb refl fit.1 fit.0)
  mail_line (post t l) u w fits node word has = absurd (cc)
  mail_line (hear_yes t l) u w fits node word has = absurd (cc)
  mail_line (hear_no t l v job) u w fits node word has = absurd (cc)
  mail_line (go t) u w fits node word has = absurd (cc)
  mail_line (quiet t) u w fits node word has = absurd (cc)
  mail_line (grant c t l) u w fits node word has = absurd (cc)
  mail_line (refuse c t l v) u w fits node word has = absurd (cc)
  mail_line (release c t l) u w fits node word has = absurd (cc)
  mail_line (lock_now c t l side) u w fits node word has = absurd (cc)
  mail_line (lock_ask c t l side) u w fits node word has = absurd (cc)
  mail_line (lock_moved c p) u w fits node word has = absurd (cc)
  mail_line (unlock c t l side) u w fits node word has = absurd (cc)
  mail_line (busy c t l p) u w fits node word has = absurd (cc)
  mail_line (throw c p) u w fits node word has = absurd (cc)
  mail_line (settle c p) u w fits node word has = absurd (cc)
  mail_line (enter t k) u w fits node word has = absurd (cc)
  mail_line (head t k) u w fits node word has = absurd (cc)
  mail_line (leave t k) u w fits node word has = absurd (cc)
  mail_line (tail t k) u w fits node word has = absurd (cc)

  -- any step of the box that fits is a line at its word
  pub line_there : (tries : ℕ) (step : Step) (w : Word) → Agrees (line_of tables) tries s → StepFits (line_of tables) s step → node_of step ≡ nodes.Box (box b)
      → word_of step ≡ kind_of w → kind_of w ≡ words.Resv (box b) ⊎ (kind_of w ≡ words.Lock (box b) ⊎ ((u : TrainId) × (kind_of w ≡ words.Mail u)))
      → StateSays s w → HasLine table (s.boxes b) w
  line_there tries step (Resv n w) agrees fits node word where_ has = of_resv n (resv_box n where_) word has
    where
      resv_box : (n : BoxId) → (words.Resv n ≡ words.Resv (box b)) ⊎ ((words.Resv n ≡ words.Lock (box b)) ⊎ ((u : TrainId) × (words.Resv n ≡ words.Mail u)))
          → n ≡ box b
      resv_box n h = grind arith

      of_resv : (n : BoxId) → n ≡ box b → word_of step ≡ words.Resv n → ((x : ℕ) → s.resv n.0 x ≡ holder_in w x) → HasLine table (s.boxes b) (Resv n w)
      of_resv n e word has =
          subst (λ m. HasLine table (s.boxes b) (Resv m w)) (sym e)
          (resv_line tries step w agrees fits node (subst (λ m. word_of step ≡ words.Resv m) e word)
          (subst (λ (m : BoxId). (x : ℕ) → s.resv m.0 x ≡ holder_in w x) e has))
  line_there tries step (Lock n w) agrees fits node word where_ has = of_lock n (lock_box n where_) word has
    where
      lock_box : (n : BoxId) → (words.Lock n ≡ words.Resv (box b)) ⊎ ((words.Lock n ≡ words.Lock (box b)) ⊎ ((u : TrainId) × (words.Lock n ≡ words.Mail u)))
          → n ≡ box b
      lock_box n h = grind arith

      of_lock : (n : BoxId) → n ≡ box b → word_of step ≡ words.Lock n → s.lock n.0 ≡ w → HasLine table (s.boxes b) (Lock n w)
      of_lock n e word has =
          subst (λ m. HasLine table (s.boxes b) (Lock m w)) (sym e)
          (lock_line step w fits node (subst (λ m. word_of step ≡ words.Lock m) e word) (subst (λ (m : BoxId). s.lock m.0 ≡ w) e has))
  line_there tries step (Mail u w) agrees fits node word where_ has = mail_line step u w fits node word has
  line_there tries step (Run u w) agrees fits node word where_ has = absurd (no_run u where_)
    where
      no_run : (u : TrainId) → (words.Run u ≡ words.Resv (box b)) ⊎ ((words.Run u ≡ words.Lock (box b)) ⊎ ((v : TrainId) × (words.Run u ≡ words.Mail v))) → ⊥
      no_run u h = grind arith
  line_there tries step (Sense u w) agrees fits node word where_ has = absurd (no_sense u where_)
    where
      no_sense : (u : TrainId)
          → (words.Sense u ≡ words.Resv (box b)) ⊎ ((words.Sense u ≡ words.Lock (box b)) ⊎ ((v : TrainId) × (words.Sense u ≡ words.Mail v))) → ⊥
      no_sense u h = grind arith

  -- the words at which a box looks while it is at work
  work_words : (work : Work) (k : WordKind) → word_at_work b work ≡ Some k
      → (k ≡ words.Resv (box b)) ⊎ ((k ≡ words.Lock (box b)) ⊎ ((u : TrainId) × (k ≡ words.Mail u)))
  work_words Ready k h = absurd (cc)
  work_words (Serve t l) k h = of l.verb h
    where
      of : (v : Verb) → ◌≡◌ {A = Option WordKind} (Some (word_for b v)) (Some k)
          → (k ≡ words.Resv (box b)) ⊎ ((k ≡ words.Lock (box b)) ⊎ ((u : TrainId) × (k ≡ words.Mail u)))
      of verbs.Reserve e = inl (sym (same_Some _ _ e))
      of verbs.Release e = inl (sym (same_Some _ _ e))
      of verbs.Lock e = inr (inl (sym (same_Some _ _ e)))
      of verbs.Unlock e = inr (inl (sym (same_Some _ _ e)))
  work_words (Say t l answer) k h = inr (inr (t, sym (same_Some _ _ h)))

  -- a box at work has a line at its word
  pub work_line : (tries : ℕ) (w : Word) → Agrees (line_of tables) tries s → word_at_work b (s.boxes b).work ≡ Some (kind_of w) → StateSays s w
      → HasLine table (s.boxes b) w
  work_line tries w agrees at has =
      let step = at_work (line_of tables) tries s b (kind_of w) (consistent_line tables line) agrees at in
      line_there tries step.step w agrees step.fits step.by_node step.on_word (work_words (s.boxes b).work (kind_of w) at) has

  -- so has a ready box at the mailbox in which it is asked
  pub asked_line : (tries t : ℕ) (l : Letter) → Agrees (line_of tables) tries s → l.to.0 ≡ b → s.mail t ≡ mails.Ask l → (s.boxes b).work ≡ Ready
      → HasLine table (s.boxes b) (Mail (train t) (mails.Ask l))
  asked_line tries t l agrees to mail ready =
      let ready_there : (s.boxes l.to.0).work ≡ Ready = subst (λ n. (s.boxes n).work ≡ Ready) (sym to) ready in
      let step = asked_steps (line_of tables) tries s t l (consistent_line tables line) agrees mail ready_there in
      line_there tries step.step (Mail (train t) (mails.Ask l)) agrees step.fits (step.by_node ∙ ap (λ n. nodes.Box (box n)) to) step.on_word
      (inr (inr (train t, refl))) mail
