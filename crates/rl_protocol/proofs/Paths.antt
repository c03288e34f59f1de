-- The path of a lock that is asked for or had is that of the step of its train.
use Rattle.std.proofs.Common.{◌≡◌, ℕ, ◌+◌, ◌<◌, ◌==◌, Bool, true, not, ◌&&◌, Option, Some, None, refl, sym, ap, ◌∙◌, subst, inl, inr, ◌⊎◌, ⊎_elim, arith}
use Rattle.std.proofs.lemmas.Bool.{or_left, or_right, or_cases, and_parts, not_from_false}
use Rattle.std.proofs.lemmas.Bool.Decides.{nat_tests}
use Rattle.rl_base.specs.declared.job.Verb.{Verb}
use Rattle.rl_base.specs.declared.job.Verb.TheVariants as verbs
use Rattle.rl_model.specs.declared.network.NetworkPlan.{NetworkPlan}
use Rattle.rl_tables.specs.Kept.{can_join}
use Rattle.rl_train.specs.declared.mind.TrainMind.{TrainMind}
use Rattle.rl_words.specs.declared.lock.Path.{Path}
use Rattle.rl_words.specs.declared.mail.Letter.{Letter}
use Rattle.rl_words.specs.declared.mail.MailWord.TheVariants.{Taken, Yes}
use Rattle.rl_train.specs.Jobs.{at}
use Rattle.rl_protocol.specs.Line.{Line, is_held_by, IsConsistent}
use Rattle.rl_protocol.specs.State.{State}
use Rattle.rl_protocol.specs.Minds.{row_of, letter_of}
use Rattle.rl_protocol.specs.Held.{done_letter, holds, has_lock, job_holds, job_locks, locked_after, locked_with}
use Rattle.rl_protocol.specs.Agreement.{Agrees}
use Rattle.rl_protocol.specs.Worlds.{IsLineOf}
use Rattle.rl_protocol.proofs.Known.{Waits, HasTaken, taken, answered}
use Rattle.rl_protocol.proofs.Letters.{row_arms, here_at, ahead_at, asks_lock, asks_unlock, locks_only}
use Rattle.rl_protocol.proofs.Reserving.{there_at}
use Rattle.rl_protocol.proofs.Locking.{IsPathAt}

-- the path from arm x to arm y of box b is that of the step of a train with the mind
pub record IsOwnPath (line : Line) (t : ℕ) (m : TrainMind) (b x y : ℕ) : Type 0 where
  pub within : m.step < line.steps t
  pub at_box : (row_of line t m).b.0 ≡ b
  pub at_x : (row_of line t m).x.0 ≡ x
  pub at_y : (row_of line t m).y.0 ≡ y

-- such a path has its segments, and its box can connect it
pub path_at : (net : NetworkPlan) (line : Line) (t : ℕ) (m : TrainMind) (b : ℕ) (p : Path) → IsConsistent line → IsLineOf net line
    → IsOwnPath line t m b p.x.0 p.y.0 → IsPathAt net line b p
path_at net line t m b p laws of own =
    let arms = row_arms line t m.step laws own.within in
    let at_b = own.at_box in
    let at_x = own.at_x in
    let at_y = own.at_y in
    let arm_x : line.has_arm b p.x.0 ≡ true =
    subst (λ z. line.has_arm z p.x.0 ≡ true) at_b (subst (λ z. line.has_arm (row_of line t m).b.0 z ≡ true) at_x arms.x) in
    let arm_y : line.has_arm b p.y.0 ≡ true =
    subst (λ z. line.has_arm z p.y.0 ≡ true) at_b (subst (λ z. line.has_arm (row_of line t m).b.0 z ≡ true) at_y arms.y) in
    let joined = (laws.rows t m.step own.within).joined in
    record {
      x = there_at net line b p.x.0 of arm_x;
      y = there_at net line b p.y.0 of arm_y;
      joined = subst (λ k. can_join k p.x.0 p.y.0 ≡ true) (of.kind b)
          (subst (λ z. can_join (line.kind z) p.x.0 p.y.0 ≡ true) at_b
          (subst (λ z. can_join (line.kind (row_of line t m).b.0) z p.y.0 ≡ true) at_x
          (subst (λ z. can_join (line.kind (row_of line t m).b.0) (row_of line t m).x.0 z ≡ true) at_y joined)));
    }

-- a train that waits is under way
pub waiting_within : (line : Line) (tries : ℕ) (s : State) (t : ℕ) → Agrees line tries s → (s.trains t).waits ≡ true → (s.trains t).step < line.steps t
waiting_within line tries s t agrees waits = (agrees.attempts t).under_way (or_left (s.trains t).waits _ waits)

-- the path of a lock that a train asks for, and of an unlock
pub lock_path : (line : Line) (tries : ℕ) (s : State) (t : ℕ) (l : Letter) → Agrees line tries s → (s.trains t).waits ≡ true
    → letter_of line t (s.trains t) ≡ Some l → l.verb ≡ verbs.Lock → IsOwnPath line t (s.trains t) l.to.0 l.x.0 l.y.0
lock_path line tries s t l agrees waits is verb =
    let asks = asks_lock (row_of line t (s.trains t)) (s.trains t).job l is verb in
    record {
      within = waiting_within line tries s t agrees waits;
      at_box = sym (ap (λ z. z.0) asks.to);
      at_x = sym (ap (λ z. z.0) asks.x);
      at_y =
          sym (ap (λ z. z.0) asks.y);
    }

pub unlock_path : (line : Line) (tries : ℕ) (s : State) (t : ℕ) (l : Letter) → Agrees line tries s → (s.trains t).waits ≡ true
    → letter_of line t (s.trains t) ≡ Some l → l.verb ≡ verbs.Unlock → IsOwnPath line t (s.trains t) l.to.0 l.x.0 l.y.0
unlock_path line tries s t l agrees waits is verb =
    let asks = asks_unlock (row_of line t (s.trains t)) (s.trains t).job l is verb in
    record {
      within = waiting_within line tries s t agrees waits;
      at_box = sym (ap (λ z. z.0) asks.to);
      at_x = sym (ap (λ z. z.0) asks.x);
      at_y =
          sym (ap (λ z. z.0) asks.y);
    }

-- a letter that is done is that of its train, which waits
done_is : (line : Line) (tries : ℕ) (s : State) (t : ℕ) (l : Letter) → Agrees line tries s → done_letter s t ≡ Some l → Waits line s t l
done_is line tries s t l agrees h =
    let done : (s.mail t ≡ Taken l) ⊎ (s.mail t ≡ Yes l) = grind (arith, nat_tests) in
    ⊎_elim (λ e. let it = taken line s l.to.0 t l agrees.mailboxes (λ u. (agrees.attempts u).ahead) (e, refl) in record { waits = it.waits; active = it.active; letter = it.letter })
    (λ e. answered line s t l agrees.mailboxes (λ u. (agrees.attempts u).ahead) e) done

-- a lock that is had after a letter is had before it, or it is the one that the letter asks for
locked_by : (verb : Verb) (there locked : Bool) → locked_after verb there locked ≡ true → (locked ≡ true) ⊎ ((verb ≡ verbs.Lock) × (there ≡ true))
locked_by verbs.Reserve there locked h = inl h
locked_by verbs.Release there locked h = inl h
locked_by verbs.Lock there locked h = ⊎_elim (λ e. inl e) (λ e. inr (refl, e)) (or_cases locked there h)
locked_by verbs.Unlock there locked h = inl (and_parts locked (not there) h).0

there_is : (l : Letter) (b x y : ℕ) → (at l.to l.x b x && l.y.0 == y) ≡ true → (l.to.0 ≡ b) × (l.x.0 ≡ x) × (l.y.0 ≡ y)
there_is l b x y h = (grind (arith, nat_tests), grind (arith, nat_tests), grind (arith, nat_tests))

-- the path of a lock that a train has
pub lock_is_own : (line : Line) (tries : ℕ) (s : State) (t b x y : ℕ) → Agrees line tries s → has_lock line s t b x y ≡ true
    → IsOwnPath line t (s.trains t) b x y
lock_is_own line tries s t b x y agrees h = of (done_letter s t) refl h
  where
    by_job : job_locks line t (s.trains t) b x y ≡ true → IsOwnPath line t (s.trains t) b x y
    by_job h =
        let only = locks_only (row_of line t (s.trains t)) (s.trains t).job b x y h in
        record {
          within = (agrees.attempts t).under_way (or_right (s.trains t).waits _ (not_from_false _ only.0));
          at_box = only.1;
          at_x = only.2;
          at_y = only.3;
        }

    of : (o : Option Letter) → done_letter s t ≡ o → locked_with o b x y (job_locks line t (s.trains t) b x y) ≡ true → IsOwnPath line t (s.trains t) b x y
    of None is h = by_job h
    of (Some l) is h =
        let waits = done_is line tries s t l agrees is in
        ⊎_elim by_job
        (λ e.
        let own = lock_path line tries s t l agrees waits.waits waits.letter e.0 in
        let is = there_is l b x y e.1 in
        record { within = own.within; at_box = own.at_box ∙ is.0; at_x = own.at_x ∙ is.1; at_y = own.at_y ∙ is.2 })
        (locked_by l.verb _ _ h)

-- a train that asks for a lock holds both segments there, and hasn't the lock
pub lock_held : (line : Line) (tries : ℕ) (s : State) (b t : ℕ) (l : Letter) → IsConsistent line → Agrees line tries s → HasTaken line s b t l
    → l.verb ≡ verbs.Lock → (is_held_by t (s.resv b l.x.0) ≡ true) × (is_held_by t (s.resv b l.y.0) ≡ true)
lock_held line tries s b t l laws agrees has verb =
    let asks = asks_lock (row_of line t (s.trains t)) (s.trains t).job l has.letter verb in
    let is = laws.rows t (s.trains t).step (waiting_within line tries s t agrees has.waits) in
    let here = (here_at line t (s.trains t).step is).0 in
    let ahead = (ahead_at line t (s.trains t).step is).0 in
    let at_box : (row_of line t (s.trains t)).b.0 ≡ b = sym (ap (λ z. z.0) asks.to) ∙ has.to in
    let at_x : (row_of line t (s.trains t)).x.0 ≡ l.x.0 = sym (ap (λ z. z.0) asks.x) in
    let at_y : (row_of line t (s.trains t)).y.0 ≡ l.y.0 = sym (ap (λ z. z.0) asks.y) in
    let here_b : line.ends t (s.trains t).step b l.x.0 ≡ true =
    subst (λ z. line.ends t (s.trains t).step z l.x.0 ≡ true) at_box
    (subst (λ z. line.ends t (s.trains t).step (row_of line t (s.trains t)).b.0 z ≡ true) at_x here) in
    let ahead_b : line.ends t ((s.trains t).step + 1) b l.y.0 ≡ true =
    subst (λ z. line.ends t ((s.trains t).step + 1) z l.y.0 ≡ true) at_box
    (subst (λ z. line.ends t ((s.trains t).step + 1) (row_of line t (s.trains t)).b.0 z ≡ true) at_y ahead) in (
      agrees.reservations.exact t b l.x.0 ∙ by_job has.mail verb l.x.0 ∙ asks.holds _ _ _ b l.x.0 (or_left _ _ here_b),
      agrees.reservations.exact t b l.y.0 ∙ by_job has.mail verb l.y.0 ∙ asks.holds _ _ _ b l.y.0 (or_right _ _ ahead_b),
    )
  where
    by_job : s.mail t ≡ Taken l → l.verb ≡ verbs.Lock → (x : ℕ) → holds line s t b x ≡ job_holds line t (s.trains t) b x
    by_job mail verb x = grind (arith, nat_tests)
