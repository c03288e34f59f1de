-- What the look-ups in the rows mean for the world: each test holds exactly where its sentence does.
use Rattle.std.proofs.Common.{◌≡◌, ℕ, ◌==◌, ◌↔◌, Bool, true, false, not, ◌&&◌, Option, Some, None, is_some, is_none, IsTrue, refl, sym, ◌∙◌, inl, inr}
use Rattle.std.specs.Option.{option_map_or}
use Rattle.std.proofs.lemmas.Bool.{eq-eqb, eqb-true, and_from, and_parts, and_left, false_from_ne_true, false≢true, true≢false}
use Rattle.std.proofs.lemmas.Option.{slice_get_cases}
use Rattle.rl_base.specs.declared.ids.TrainId.{TrainId}
use Rattle.rl_model.specs.declared.network.NetworkPlan.{NetworkPlan}
use Rattle.rl_domain.specs.declared.states.PathLock.{PathLock}
use Rattle.rl_domain.specs.declared.states.Passage.{Passage}
use Rattle.rl_domain.specs.declared.states.Standing.{Standing}
use Rattle.rl_domain.specs.States.{is_train, is_lock, is_lock_of, is_across, comes_from, stands_across}
use Rattle.rl_domain.specs.Rows.{Rows, Fits, IsLock, lock_of}

-- a lock is its own
own_lock : (l : PathLock) → is_lock l.t.0 l.s.0 l.s2.0 (Some l) ≡ true
own_lock l = and_from _ _ (and_from _ _ (eq-eqb l.t.0 l.t.0 refl) (eq-eqb l.s.0 l.s.0 refl)) (eq-eqb l.s2.0 l.s2.0 refl)

lock_parts : (l : PathLock) (t from to : ℕ) → is_lock t from to (Some l) ≡ true → (t ≡ l.t.0) × (from ≡ l.s.0) × (to ≡ l.s2.0)
lock_parts l t from to is =
    let last = and_parts (t == l.t.0 && from == l.s.0) (to == l.s2.0) is in
    let first = and_parts (t == l.t.0) (from == l.s.0) last.0 in
    (eqb-true t l.t.0 first.0, eqb-true from l.s.0 first.1, eqb-true to l.s2.0 last.1)

-- a holder whom no train is isn't there
pub nobody : (o : Option TrainId) → ((t : ℕ) → is_train t o ≡ false) → o ≡ None
nobody None isnt = refl
nobody (Some u) isnt = let here = isnt u.0 in let same = eq-eqb u.0 u.0 refl in absurd (cc)

-- no holder, and no train that is the holder
pub free_iff : (o : Option TrainId) → (is_none o ≡ true) ↔ ((u : ℕ) → is_train u o ≡ false)
free_iff None = (λ is u. refl, λ all. refl)
free_iff (Some u) =
    (λ is. absurd (false≢true is), λ all. let is = eq-eqb u.0 u.0 refl in absurd (true≢false (sym is ∙ all u.0)))

-- no lock, and no train and path of which it is
pub unlocked_iff : (o : Option PathLock) → (is_none o ≡ true) ↔ ((u from to : ℕ) → is_lock u from to o ≡ false)
unlocked_iff None = (λ is u from to. refl, λ all. refl)
unlocked_iff (Some l) =
    (λ is. absurd (false≢true is), λ all. absurd (true≢false (sym (own_lock l) ∙ all l.t.0 l.s.0 l.s2.0)))

pub locked_iff : (o : Option PathLock) → (is_some o ≡ true) ↔ ((u : ℕ) × (from : ℕ) × (to : ℕ) × IsTrue (is_lock u from to o))
locked_iff None = (λ is. absurd (false≢true is), λ some. absurd (false≢true some.3))
locked_iff (Some l) = (λ is. (l.t.0, l.s.0, l.s2.0, own_lock l), λ some. refl)

pub lock_of_iff : (t : ℕ) (o : Option PathLock) → (is_lock_of t o ≡ true) ↔ ((from : ℕ) × (to : ℕ) × IsTrue (is_lock t from to o))
lock_of_iff t None = (λ is. absurd (false≢true is), λ some. absurd (false≢true some.2))
lock_of_iff t (Some l) = (
  λ is. (l.s.0, l.s2.0, and_from _ _ (and_from _ _ is (eq-eqb l.s.0 l.s.0 refl)) (eq-eqb l.s2.0 l.s2.0 refl)),
  λ some. let parts = lock_parts l t some.0 some.1 some.2 in eq-eqb t l.t.0 parts.0,
)

pub no_lock : (o : Option PathLock) → ((u from to : ℕ) → is_lock u from to o ≡ false) → o ≡ None
no_lock None isnt = refl
no_lock (Some l) isnt = absurd (true≢false (sym (own_lock l) ∙ isnt l.t.0 l.s.0 l.s2.0))

-- a test of the one locked path, and of each locked path
pub locked_path_iff : (l : PathLock) (test : ℕ → ℕ → Bool) (answer : Bool)
    → (test l.s.0 l.s2.0 ≡ answer) ↔ ((u from to : ℕ) → is_lock u from to (Some l) ≡ true → test from to ≡ answer)
locked_path_iff l test answer = (
  λ is u from to at. let parts = lock_parts l u from to at in rw (parts.1, parts.2) is,
  λ all. all l.t.0 l.s.0 l.s2.0 (own_lock l),
)

pub not_iff : (b : Bool) → (not b ≡ true) ↔ (b ≡ false)
not_iff true = (λ is. absurd (false≢true is), λ is. absurd (true≢false is))
not_iff false = (λ is. refl, λ is. refl)

pub ↔_trans : {P Q R : Type 0} → (P ↔ Q) → (Q ↔ R) → P ↔ R
↔_trans f g = (λ p. g.0 (f.0 p), λ r. f.1 (g.1 r))

-- a passage from segment on, over box b or over any
passage_off_iff : (b on : ℕ) (o : Option Passage)
    → (option_map_or (λ (p : Passage). b == p.b.0) o false ≡ false) ↔ ((from to : ℕ)
    → option_map_or (λ (p : Passage). b == p.b.0 && from == on && to == p.to.0) o false ≡ false)
passage_off_iff b on None = (λ isnt from to. refl, λ all. refl)
passage_off_iff b on (Some p) = (
  λ isnt from to. and_left _ _ (and_left _ _ isnt),
  λ all. false_from_ne_true _ (λ is. let own = and_from _ _ (and_from _ _ is (eq-eqb on on refl)) (eq-eqb p.to.0 p.to.0 refl) in
      true≢false (sym own ∙ all on p.to.0)),
)

passage_none_iff : (on : ℕ) (o : Option Passage)
    → (is_none o ≡ true) ↔ ((b from to : ℕ) → option_map_or (λ (p : Passage). b == p.b.0 && from == on && to == p.to.0) o false ≡ false)
passage_none_iff on None = (λ is b from to. refl, λ all. refl)
passage_none_iff on (Some p) = (
  λ is. absurd (false≢true is),
  λ all. let own = and_from _ _ (and_from _ _ (eq-eqb p.b.0 p.b.0 refl) (eq-eqb on on refl)) (eq-eqb p.to.0 p.to.0 refl) in
      absurd (true≢false (sym own ∙ all p.b.0 on p.to.0)),
)

passage_from_iff : (s on : ℕ) (o : Option Passage)
    → ((s == on && is_some o) ≡ true) ↔ ((b : ℕ) × (to : ℕ) × IsTrue (option_map_or (λ (p : Passage). b == p.b.0 && s == on && to == p.to.0) o false))
passage_from_iff s on None =
    (λ is. absurd (false≢true (and_parts (s == on) false is).1), λ some. absurd (false≢true some.2))
passage_from_iff s on (Some p) = (
  λ is. (p.b.0, p.to.0, and_from _ _ (and_from _ _ (eq-eqb p.b.0 p.b.0 refl) (and_parts (s == on) true is).0) (eq-eqb p.to.0 p.to.0 refl)),
  λ some.
      let first = and_parts (some.0 == p.b.0 && s == on) (some.1 == p.to.0) some.2 in
      and_from _ _ (and_parts (some.0 == p.b.0) (s == on) first.0).1 refl,
)

-- the standings of a train: across a box, across none, and from which segment
pub off_iff : (b : ℕ) (x : Standing) → (is_across b x ≡ false) ↔ ((from to : ℕ) → stands_across b from to x ≡ false)
off_iff b x = passage_off_iff b x.on.0 x.across

pub off_all_iff : (x : Standing) → (is_none x.across ≡ true) ↔ ((b from to : ℕ) → stands_across b from to x ≡ false)
off_all_iff x = passage_none_iff x.on.0 x.across

pub from_iff : (s : ℕ) (x : Standing) → (comes_from s x ≡ true) ↔ ((b : ℕ) × (to : ℕ) × IsTrue (stands_across b s to x))
from_iff s x = passage_from_iff s x.on.0 x.across

-- a lock in the rows is in range
pub lock_in_range : (net : NetworkPlan) (rows : Rows) (b : ℕ) (l : PathLock) → Fits net rows → lock_of rows b ≡ Some l → IsLock net l
lock_in_range net rows b l fits is =
    elim (slice_get_cases rows.boxes b).1 [
      | inl here ↦ (fits.states b here.0 here.2).lock l (rw here.2 at is)
      | inr out ↦ let none = rw out.1 at is in absurd (cc)
    ]

pub iff_at : {P : Type 0} (r s : Bool) → r ≡ s → ((s ≡ true) ↔ P) → (r ≡ true) ↔ P
iff_at r s same f = (λ is. f.0 (sym same ∙ is), λ p. same ∙ f.1 p)

pub none_is : {A : Type 0} (o : Option A) (r : Bool) → is_some o ≡ not r → r ≡ is_none o
none_is None true is = refl
none_is None false is = absurd (false≢true is)
none_is (Some x) true is = absurd (true≢false is)
none_is (Some x) false is = refl

none_from : {A : Type 0} (o : Option A) → is_none o ≡ true → o ≡ None
none_from None is = refl
none_from (Some x) is = absurd (false≢true is)

some_from : {A : Type 0} (o : Option A) → is_some o ≡ true → (x : A) × (o ≡ Some x)
some_from None is = absurd (false≢true is)
some_from (Some x) is = (x, refl)

-- a train that is across no box has no passage, and one that comes from a segment has its tail there
pub no_passage : (x : Standing) → ((b from to : ℕ) → stands_across b from to x ≡ false) → x.across ≡ None
no_passage x off = none_from x.across ((off_all_iff x).1 off)

pub from_parts : (s : ℕ) (x : Standing) → ((b : ℕ) × (to : ℕ) × IsTrue (stands_across b s to x)) → (s ≡ x.on.0) × ((p : Passage) × (x.across ≡ Some p))
from_parts s x some =
    let both = and_parts (s == x.on.0) (is_some x.across) ((from_iff s x).1 some) in
    (eqb-true s x.on.0 both.0, some_from x.across both.1)

pub none_at : {A : Type 0} (o : Option A) → is_some o ≡ false → is_none o ≡ true
none_at None is = refl
none_at (Some x) is = absurd (true≢false is)
