-- An event that can be made behind a sorted run has its place in it: the run with the event in that place leads to the
-- same state.
use Rattle.std.proofs.Common.{◌≡◌, ◌≢◌, ℕ, suc, ◌≤◌, ◌==◌, ◌⊎◌, inl, inr, Bool}
use Rattle.std.proofs.Common.{true, false, cond, List, [], ◌∷◌, length, refl, sym, ap, ◌∙◌, subst, arith}
use Rattle.std.proofs.lemmas.Bool.Decides.{nat_tests, leb_tells}
use Rattle.rl_base.specs.Numbers.{IsU32}
use Rattle.rl_base.specs.Tries.{AreFewTries}
use Rattle.rl_record.specs.declared.event.Event.{Event}
use Rattle.rl_record.specs.Merge.{history, IsBefore, IsAfterAll, Falls}
use Rattle.rl_record.proofs.Falling.{before_both}
use Rattle.rl_tables.specs.declared.table.Tables.{Tables}
use Rattle.rl_tables.specs.Kept.{IsLine}
use Rattle.rl_steps.specs.State.{CoreState, after}
use Rattle.rl_steps.specs.Run.{EventFits, IsRun, state}
use Rattle.rl_steps.proofs.Made.{IsMade, fits_made}
use Rattle.rl_merge.proofs.Exchange.{Apart, apart_back, made_before, made_after, made_fits, either_order}
use Rattle.rl_merge.proofs.Later.{Laws, Follows, apart}

-- the list is the run with the event in its place
pub record IsPlaced (tables : Tables) (tries : ℕ) (e : Event) (earlier all : List Event) : Type 0 where
  pub run : IsRun tables tries all
  pub state_is : state tables tries all ≡ after tables (state tables tries earlier) e
  pub falls : Falls all
  pub behind : (x : Event) → IsAfterAll x earlier → IsBefore e x → IsAfterAll x all
  pub parts : (n : ℕ) → history n all ≡ history n (e ∷ earlier)
  pub size : length all ≡ suc (length earlier)

abbrev pub Placed : Tables → ℕ → Event → List Event → Type 0
Placed tables tries e earlier = (all : List Event) × IsPlaced tables tries e earlier all

pub order : (f e : Event) → IsBefore f e ⊎ ((e.stamp ≤ f.stamp) × (e.node.0 ≢ f.node.0 → IsBefore e f))
order f e =
    elim (leb_tells e.stamp f.stamp) [
      | inr later ↦ inl (inl later.1)
      | inl no_later ↦ (elim (leb_tells f.stamp e.stamp) [
        | inr earlier ↦ inr (no_later.1, λ other. inl earlier.1)
        | inl same ↦ (elim (leb_tells e.node.0 f.node.0) [
          | inr above ↦ inl (inr (omega (arith, no_later.1, same.1), above.1))
          | inl below ↦ inr (no_later.1, λ other. inr (omega (arith, no_later.1, same.1), omega (arith, below.1)))
        ])
      ])
    ]

-- in front of the whole run
pub after_more : (e f : Event) (xs : List Event) → IsAfterAll f xs → IsBefore f e → IsAfterAll e xs
after_more e f [] after before = tt
after_more e f (x ∷ xs) after before = (before_both x f e after.0 before, after_more e f xs after.1 before)

in_front : (tables : Tables) (tries : ℕ) (f : Event) (earlier : List Event) (e : Event) → Follows tables tries f earlier e
    → Falls (f ∷ earlier) → IsBefore f e → Placed tables tries e (f ∷ earlier)
in_front tables tries f earlier e follows falls before = (
  e ∷ f ∷ earlier,
  record {
    run = (follows.run, made_fits tables (state tables tries (f ∷ earlier)) e follows.made);
    state_is = refl;
    falls = ((before, after_more e f earlier falls.0 before), falls);
    behind = λ x after under. (under, after);
    parts = λ n. refl;
    size = refl;
  },
)

-- or past its last event
swapped : (e f : Event) (h : List Event) (own other : Bool) → (own ≡ true → other ≡ true → ⊥)
    → cond other (f ∷ cond own (e ∷ h) h) (cond own (e ∷ h) h) ≡ cond own (e ∷ cond other (f ∷ h) h) (cond other (f ∷ h) h)
swapped e f h true true never = absurd (never refl refl)
swapped e f h true false never = refl
swapped e f h false true never = refl
swapped e f h false false never = refl

never_both_nodes : (e f : Event) (n : ℕ) → e.node.0 ≢ f.node.0 → (e.node.0 == n) ≡ true → (f.node.0 == n) ≡ true → ⊥
never_both_nodes e f n other own its = grind (arith, nat_tests)

pub parts_past : (e f : Event) (earlier all : List Event) (n : ℕ) → e.node.0 ≢ f.node.0 → history n all ≡ history n (e ∷ earlier)
    → history n (f ∷ all) ≡ history n (e ∷ f ∷ earlier)
parts_past e f earlier all n other parts =
    let With : List Event → List Event = λ h. cond (f.node.0 == n) (f ∷ h) h in
    ap With parts ∙ swapped e f (history n earlier) (e.node.0 == n) (f.node.0 == n) (never_both_nodes e f n other)

past : (tables : Tables) (tries : ℕ) (f : Event) (earlier : List Event) (e : Event) → Follows tables tries f earlier e
    → Falls (f ∷ earlier) → Apart e f → IsBefore e f → Placed tables tries e earlier → Placed tables tries e (f ∷ earlier)
past tables tries f earlier e follows falls apart before (all, placed) =
    let c = state tables tries earlier in
    let first = fits_made tables c f follows.run.1 in
    let fits : EventFits tables (after tables c e) f = made_fits tables (after tables c e) f (made_after tables c e f (apart_back e f apart) first) in
    let FitsAt : CoreState → Type 0 = λ s. EventFits tables s f in
    let Then : CoreState → CoreState = λ s. after tables s f in (
      f ∷ all,
      record {
        run = (placed.run, subst FitsAt (sym placed.state_is) fits);
        state_is = ap Then placed.state_is ∙ sym (either_order tables c e f apart first follows.made);
        falls = (placed.behind f falls.0 before, placed.falls);
        behind = λ x after under. (after.0, placed.behind x after.1 under);
        parts = λ n. parts_past e f earlier all n apart.nodes (placed.parts n);
        size = ap suc placed.size;
      },
    )

place : Laws → (tables : Tables) (tries : ℕ) (f : Event) (earlier : List Event) (e : Event) → Follows tables tries f earlier e
    → Falls (f ∷ earlier) → (Apart e f → Placed tables tries e earlier) → Placed tables tries e (f ∷ earlier)
place laws tables tries f earlier e follows falls deeper =
    elim (order f e) [
      | inl before ↦ in_front tables tries f earlier e follows falls before
      | inr no_later ↦ (
          let other = apart laws tables tries f earlier e follows no_later.0 in
          past tables tries f earlier e follows falls other (no_later.1 other.nodes) (deeper other))
    ]

pub insert : Laws → (tables : Tables) (tries : ℕ) → IsLine tables → AreFewTries tries → (e : Event) (earlier : List Event)
    → Falls earlier → IsRun tables tries earlier → IsMade tables (state tables tries earlier) e → IsU32 (suc (length earlier))
    → Placed tables tries e earlier
insert laws tables tries line few e [] falls run made room = (
  e ∷ [],
  record {
    run = (tt, made_fits tables (state tables tries []) e made);
    state_is = refl;
    falls = (tt, tt);
    behind = λ x after under. (under, tt);
    parts = λ n. refl;
    size = refl;
  },
)
insert laws tables tries line few e (f ∷ earlier) falls run made room =
    let follows : Follows tables tries f earlier e = record { line = line; few = few; room = omega arith; run = run; made = made } in
    place laws tables tries f earlier e follows falls
    (λ other. insert laws tables tries line few e earlier falls.1 run.0 (made_before tables (state tables tries earlier) f e other made) (omega arith))
