-- A box that serves a letter, or has an answer to say, has a step on the word at which it looks.
use Rattle.std.proofs.Common.{◌≡◌, ◌≢◌, ℕ, ◌<◌, Bool, true, false, ◌||◌, Option, Some, None, refl, sym, ap, ◌∙◌, subst, ◌⊎◌, ⊎_elim, arith}
use Rattle.std.proofs.lemmas.Bool.{eq-eqb, eqb-true, and_parts, and_from, both_ways, false≢true}
use Rattle.std.proofs.lemmas.Option.{same_Some}
use Rattle.std.proofs.lemmas.Bool.Decides.{nat_tests}
use Rattle.rl_base.specs.declared.ids.TrainId.{TrainId}
use Rattle.rl_base.specs.declared.job.Verb.{Verb}
use Rattle.rl_base.specs.declared.job.Verb.TheVariants as verbs
use Rattle.rl_base.specs.declared.kind.Kind.TheVariants.{Point}
use Rattle.rl_base.specs.declared.kind.Kind.{Kind}
use Rattle.rl_base.specs.declared.kind.Side.{Side}
use Rattle.rl_base.specs.declared.kind.Side.TheVariants.{Left, Right}
use Rattle.rl_train.specs.declared.mind.TrainMind.{TrainMind}
use Rattle.rl_base.specs.declared.layout.NodeKind.TheVariants as nodes
use Rattle.rl_base.specs.declared.layout.WordKind.{WordKind}
use Rattle.rl_base.specs.declared.layout.WordKind.TheVariants as words
use Rattle.rl_base.specs.Kind.{arms_join}
use Rattle.rl_tables.specs.Kept.{can_join}
use Rattle.rl_words.specs.declared.lock.LockWord.{LockWord}
use Rattle.rl_words.specs.declared.lock.LockWord.TheVariants.{Free, Asked, Moving, Moved, Locked}
use Rattle.rl_words.specs.declared.lock.Path.{Path}
use Rattle.rl_words.specs.declared.mail.Letter.{Letter}
use Rattle.rl_words.specs.declared.mail.MailWord.TheVariants.{Taken}
use Rattle.rl_words.specs.Mail.{IsRefusable}
use Rattle.rl_box.specs.declared.mind.Answer.{Answer}
use Rattle.rl_box.specs.declared.mind.Answer.TheVariants as answers
use Rattle.rl_box.specs.declared.mind.Work.{Work}
use Rattle.rl_box.specs.declared.mind.Work.TheVariants.{Ready, Serve, Say}
use Rattle.rl_protocol.specs.Line.{Line, is_held_by, IsConsistent}
use Rattle.rl_protocol.specs.State.{State}
use Rattle.rl_box.specs.Steps.{path_of, other_side}
use Rattle.rl_protocol.specs.Minds.{train, box, letter_of_path, row_of, serving}
use Rattle.rl_protocol.specs.Steps.{grant, refuse, release, lock_now, lock_ask, unlock, say_yes, say_no, busy}
use Rattle.rl_protocol.specs.Held.{held_with, locked_with, done_letter, job_holds, job_locks}
use Rattle.rl_protocol.specs.Agreement.{Agrees, is_locked_by, path_in_setting, HasWhatIsAsked}
use Rattle.rl_protocol.specs.AtWork.{HasStep, word_for, word_at_work}
use Rattle.rl_protocol.proofs.Known.{HasTaken, taken, taken_path}
use Rattle.rl_protocol.proofs.Letters.{asks_lock, asks_unlock, reserves_new, releases_old}
use Rattle.rl_protocol.proofs.Sides.{has_side}
use Rattle.rl_protocol.proofs.Moved.{set_lock}
use Rattle.rl_protocol.proofs.Paths.{IsOwnPath, waiting_within, lock_path, unlock_path, lock_held}

-- what only a No to a reservation or a lock can have
asked_refusable : (s : State) (b : ℕ) (l : Letter) (u : TrainId) (v : Verb) → HasWhatIsAsked s b l u v → IsRefusable v
asked_refusable s b l u verbs.Reserve h = tt
asked_refusable s b l u verbs.Lock h = tt
asked_refusable s b l u verbs.Release h = absurd h
asked_refusable s b l u verbs.Unlock h = absurd h

-- who holds by the test
holder_is : (t : ℕ) (o : Option TrainId) → is_held_by t o ≡ true → o ≡ Some (train t)
holder_is t None h = absurd (false≢true h)
holder_is t (Some u) h = let same = eqb-true u.0 t h in grind arith

-- whom the word of an arm doesn't name doesn't hold it
other_holder : (t : ℕ) (o : Option TrainId) (u : TrainId) → is_held_by t o ≡ false → o ≡ Some u → u.0 ≢ t
other_holder t o u h is = λ e. grind (arith, nat_tests)

-- one arm is held by one train
one_holder : (t u : ℕ) (o : Option TrainId) → is_held_by t o ≡ true → is_held_by u o ≡ true → t ≡ u
one_holder t u o h k = grind (arith, nat_tests)

-- two paths through a point both use its stem
stems : (x y i j : ℕ) → can_join Point x y ≡ true → can_join Point i j ≡ true → (x ≡ i) ⊎ ((x ≡ j) ⊎ ((y ≡ i) ⊎ (y ≡ j)))
stems x y i j h k = grind (arith, nat_tests)

-- a box that can connect the arms, and doesn't as it stands, does at the other side
turned : (kind : Kind) (x y : ℕ) (side : Side) → arms_join kind x y side ≡ false → can_join kind x y ≡ true → arms_join kind x y (other_side side) ≡ true
turned kind x y Left h k = sym (ap (λ c. c || arms_join kind x y Right) h) ∙ k
turned kind x y Right h k = grind (arith, nat_tests)

-- a path by its parts
path_is : (p : Path) (t : ℕ) (l : Letter) → p.train.0 ≡ t → p.x.0 ≡ l.x.0 → p.y.0 ≡ l.y.0 → p ≡ path_of (train t) l
path_is p t l e f g = grind arith

module _ (line : Line) (tries : ℕ) (s : State) (laws : IsConsistent line) (agrees : Agrees line tries s) (b t : ℕ) (l : Letter)
    (serves : (s.boxes b).work ≡ Serve (train t) l) where
  has : HasTaken line s b t l
  has = taken line s b t l agrees.mailboxes (λ u. (agrees.attempts u).ahead) (agrees.mailboxes.serves b (train t) l serves)

  within : (s.trains t).step < line.steps t
  within = waiting_within line tries s t agrees has.waits

  -- the letter isn't done yet
  not_done : done_letter s t ≡ None
  not_done = undone has.mail has.to (λ p h. agrees.mailboxes.serves_one b (train t) l p serves h)
    where
      undone : s.mail t ≡ Taken l → l.to.0 ≡ b → ((p : Path) → (s.boxes b).waiting ≡ Some p → p.train.0 ≢ t) → done_letter s t ≡ None
      undone mail to other = grind (arith, nat_tests)

  -- so what its train holds and has locked is what is of its job
  by_job : (u : ℕ) → is_held_by t (s.resv b u) ≡ job_holds line t (s.trains t) b u
  by_job u = agrees.reservations.exact t b u ∙ ap (λ o. held_with o b u (job_holds line t (s.trains t) b u)) not_done

  by_job_locked : (x y : ℕ) → is_locked_by (s.lock b) t x y ≡ job_locks line t (s.trains t) b x y
  by_job_locked x y = agrees.locks.exact t b x y ∙ ap (λ o. locked_with o b x y (job_locks line t (s.trains t) b x y)) not_done

  -- the place of a reservation is free, or another train's
  serves_reserve : l.verb ≡ verbs.Reserve → HasStep line s (nodes.Box (box b)) (words.Resv (box b))
  serves_reserve verb = of (s.resv b l.x.0) refl
    where
      mine : is_held_by t (s.resv b l.x.0) ≡ false
      mine = by_job l.x.0 ∙ subst (λ c. job_holds line t (s.trains t) c l.x.0 ≡ false) has.to (reserves_new line t (s.trains t) l laws within has.letter verb)

      of : (o : Option TrainId) → s.resv b l.x.0 ≡ o → HasStep line s (nodes.Box (box b)) (words.Resv (box b))
      of None is = record { step = grant b t l; fits = (serves, verb, is); by_node = refl; on_word = refl }
      of (Some u) is = record { step = refuse b t l u; fits = (serves, verb, is, other_holder t (s.resv b l.x.0) u mine is); by_node = refl; on_word = refl }

  serves_release : l.verb ≡ verbs.Release → HasStep line s (nodes.Box (box b)) (words.Resv (box b))
  serves_release verb =
      let mine : is_held_by t (s.resv b l.x.0) ≡ true =
      by_job l.x.0 ∙ subst (λ c. job_holds line t (s.trains t) c l.x.0 ≡ true) has.to (releases_old line t (s.trains t) l laws within has.letter verb) in
      record { step = release b t l; fits = (serves, verb, holder_is t (s.resv b l.x.0) mine); by_node = refl; on_word = refl }

  -- a box that is asked for a lock waits for no points: who has the lock holds the stem, and so does who asks
  joined_at : (m : TrainMind) (u x y : ℕ) → IsOwnPath line u m b x y → can_join (line.kind b) x y ≡ true
  joined_at m u x y own =
      subst (λ c. can_join (line.kind c) x y ≡ true) own.at_box
      (subst (λ i. can_join (line.kind (row_of line u m).b.0) i y ≡ true) own.at_x
      (subst (λ j. can_join (line.kind (row_of line u m).b.0) (row_of line u m).x.0 j ≡ true) own.at_y (laws.rows u m.step own.within).joined))

  own : l.verb ≡ verbs.Lock → IsOwnPath line t (s.trains t) b l.x.0 l.y.0
  own verb = subst (λ c. IsOwnPath line t (s.trains t) c l.x.0 l.y.0) has.to (lock_path line tries s t l agrees has.waits has.letter verb)

  no_points : l.verb ≡ verbs.Lock → (s.boxes b).waiting ≡ None
  no_points verb = of (s.boxes b).waiting refl
    where
      meet : (p : Path) → (s.boxes b).waiting ≡ Some p → ⊥
      meet p is =
          let other = taken_path line s b p agrees.mailboxes (λ u. (agrees.attempts u).ahead) is in
          let point = agrees.locks.points b p is in
          let held = lock_held line tries s b t l laws agrees has verb in
          let theirs = lock_held line tries s b p.train.0 (letter_of_path b p) laws agrees other refl in
          let path = lock_path line tries s p.train.0 (letter_of_path b p) agrees other.waits other.letter refl in
          let apart = agrees.mailboxes.serves_one b (train t) l p serves is in
          let same : (x i : ℕ) → x ≡ i → is_held_by t (s.resv b x) ≡ true → is_held_by p.train.0 (s.resv b i) ≡ true → ⊥ =
          λ x i e h k. apart (one_holder p.train.0 t (s.resv b x) (subst (λ z. is_held_by p.train.0 (s.resv b z) ≡ true) (sym e) k) h) in
          ⊎_elim (λ e. same l.x.0 p.x.0 e held.0 theirs.0)
          (λ h. ⊎_elim (λ e. same l.x.0 p.y.0 e held.0 theirs.1)
          (λ h. ⊎_elim (λ e. same l.y.0 p.x.0 e held.1 theirs.0) (λ e. same l.y.0 p.y.0 e held.1 theirs.1) h) h)
          (stems l.x.0 l.y.0 p.x.0 p.y.0
          (subst (λ k. can_join k l.x.0 l.y.0 ≡ true) point (joined_at (s.trains t) t l.x.0 l.y.0 (own verb)))
          (subst (λ k. can_join k p.x.0 p.y.0 ≡ true) point (joined_at (s.trains p.train.0) p.train.0 p.x.0 p.y.0 path)))

      of : (o : Option Path) → (s.boxes b).waiting ≡ o → o ≡ None
      of None is = refl
      of (Some p) is = absurd (meet p is)

  mind_is : (s.boxes b).waiting ≡ None → s.boxes b ≡ serving t l
  mind_is none = grind arith

  serves_lock : l.verb ≡ verbs.Lock → HasStep line s (nodes.Box (box b)) (words.Lock (box b))
  serves_lock verb = of (s.lock b) refl (sym (agrees.locks.waiting b) ∙ no_points verb)
    where
      mind : s.boxes b ≡ serving t l
      mind = mind_is (no_points verb)

      side_of : (side : Side) → s.lock b ≡ Free side → (c : Bool) → arms_join (line.kind b) l.x.0 l.y.0 side ≡ c
          → HasStep line s (nodes.Box (box b)) (words.Lock (box b))
      side_of side is true h = record { step = lock_now b t l side; fits = (mind, verb, is, h); by_node = refl; on_word = refl }
      side_of side is false h =
          record {
            step = lock_ask b t l side;
            fits =
                (mind, verb, is, h, turned (line.kind b) l.x.0 l.y.0 side h (joined_at (s.trains t) t l.x.0 l.y.0 (own verb)));
            by_node = refl;
            on_word = refl;
          }

      not_mine : (p : Path) → s.lock b ≡ Locked p → p.train.0 ≢ t
      not_mine p is = λ e.
          both_ways (is_locked_by (s.lock b) t p.x.0 p.y.0)
          (by_job_locked p.x.0 p.y.0 ∙ (asks_lock (row_of line t (s.trains t)) (s.trains t).job l has.letter verb).unlocked b p.x.0 p.y.0)
          (ap (λ w. is_locked_by w t p.x.0 p.y.0) is ∙ and_from _ _ (and_from _ _ (eq-eqb p.train.0 t e) (eq-eqb p.x.0 p.x.0 refl)) (eq-eqb p.y.0 p.y.0 refl))

      of : (w : LockWord) → s.lock b ≡ w → path_in_setting (s.lock b) ≡ None → HasStep line s (nodes.Box (box b)) (words.Lock (box b))
      of (Free side) is none = side_of side is (arms_join (line.kind b) l.x.0 l.y.0 side) refl
      of (Asked p) is none = absurd (cc)
      of (Moving p) is none = absurd (cc)
      of (Moved p) is none = absurd (cc)
      of (Locked p) is none = record { step = busy b t l p; fits = (mind, verb, is, not_mine p is); by_node = refl; on_word = refl }

  serves_unlock : l.verb ≡ verbs.Unlock → HasStep line s (nodes.Box (box b)) (words.Lock (box b))
  serves_unlock verb =
      let asks = asks_unlock (row_of line t (s.trains t)) (s.trains t).job l has.letter verb in
      let path = unlock_path line tries s t l agrees has.waits has.letter verb in
      let mine : is_locked_by (s.lock b) t l.x.0 l.y.0 ≡ true =
      by_job_locked l.x.0 l.y.0 ∙ asks.locked b l.x.0 l.y.0
      ∙ and_from _ _ (and_from _ _ (eq-eqb _ _ (path.at_box ∙ has.to)) (eq-eqb _ _ path.at_x)) (eq-eqb _ _ path.at_y) in
      let set = set_lock (s.lock b) t l.x.0 l.y.0 mine (λ p e. agrees.mailboxes.serves_one b (train t) l p serves (agrees.locks.waiting b ∙ e)) in
      let none : (s.boxes b).waiting ≡ None = agrees.locks.waiting b ∙ ap path_in_setting set.1 in
      let side = has_side (line.kind b) l.x.0 l.y.0
      (joined_at (s.trains t) t l.x.0 l.y.0 (subst (λ c. IsOwnPath line t (s.trains t) c l.x.0 l.y.0) has.to path)) in
      record {
        step = unlock b t l side.0;
        fits = (
          mind_is none,
          verb,
          set.1
              ∙ ap (λ p. Locked p) (path_is set.0 t l
              (eqb-true _ _ (and_parts _ _ (and_parts _ _ (sym (ap (λ w. is_locked_by w t l.x.0 l.y.0) set.1) ∙ mine)).0).0) set.2 set.3),
          side.1,
        );
        by_node =
            refl;
        on_word = refl;
      }

  pub served : HasStep line s (nodes.Box (box b)) (word_for b l.verb)
  served = of l.verb refl
    where
      of : (v : Verb) → l.verb ≡ v → HasStep line s (nodes.Box (box b)) (word_for b v)
      of verbs.Reserve e = serves_reserve e
      of verbs.Release e = serves_release e
      of verbs.Lock e = serves_lock e
      of verbs.Unlock e = serves_unlock e

-- and a box that says has its answer to say
pub says_step : (line : Line) (tries : ℕ) (s : State) (b : ℕ) (t : TrainId) (l : Letter) (answer : Answer) → Agrees line tries s
    → (s.boxes b).work ≡ Say t l answer → HasStep line s (nodes.Box (box b)) (words.Mail t)
says_step line tries s b t l answers.Yes agrees says =
    record { step = say_yes b t.0 l; fits = (says, (agrees.mailboxes.says b t l answers.Yes says).0); by_node = refl; on_word = refl }
says_step line tries s b t l (answers.No u) agrees says =
    record {
      step = say_no b t.0 l u;
      fits = (says, asked_refusable s b l u l.verb (agrees.answers.has b t u l says), (agrees.mailboxes.says b t l (answers.No u) says).0);
      by_node = refl;
      on_word = refl;
    }

pub at_work : (line : Line) (tries : ℕ) (s : State) (b : ℕ) (word : WordKind) → IsConsistent line → Agrees line tries s
    → word_at_work b (s.boxes b).work ≡ Some word → HasStep line s (nodes.Box (box b)) word
at_work line tries s b word laws agrees h = of (s.boxes b).work refl h
  where
    of : (work : Work) → (s.boxes b).work ≡ work → word_at_work b work ≡ Some word → HasStep line s (nodes.Box (box b)) word
    of Ready is h = cc
    of (Serve t l) is h = subst (HasStep line s (nodes.Box (box b))) (same_Some (word_for b l.verb) word h) (served line tries s laws agrees b t.0 l is)
    of (Say t l answer) is h = subst (HasStep line s (nodes.Box (box b))) (same_Some (words.Mail t) word h) (says_step line tries s b t l answer agrees is)
