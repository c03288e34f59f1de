-- What the search finds is the first refusal by the plain sentence, and no other answer is right.
use Rattle.std.proofs.Common.{◌≡◌, ℕ, cond, eqb, Option, Some, None, Result, Ok, Err, refl, sym, ap, ap₂, ◌∙◌}
use Rattle.std.proofs.lemmas.Bool.{both_ways}
use Rattle.std.specs.Prelude.{IfOk, OnOk, IfErr}
use Rattle.rl_base.specs.declared.place.Place.{Place}
use Rattle.rl_base.specs.declared.draft.Draft.{Draft}
use Rattle.rl_model.specs.declared.network.NetworkPlan.{NetworkPlan}
use Rattle.rl_drafts.specs.Drafts.{network_of}
use Rattle.rl_drafts.specs.Refusals.{breaks, IsAccepted, IsFirstRefusal}
use Rattle.rl_drafts.specs.Search.{Refusal, first_refusal}
use Rattle.rl_net.specs.declared.refusal.NetRefusal.{NetRefusal}
use Rattle.rl_net.specs.declared.refusal.NetRefusal.TheVariants.{Count, Twice, ArmCount, NoSegment, SameBox, Ends, At, RouteShape, RouteName, RouteFit, StartShared, NoMemory}
use Rattle.rl_net.specs.NetRefusals.{refusal_number, refusal_place, IsRefusal, IsRight, UnlessMemory, IsFound}

-- where nothing is found no rule is broken
pub is_accepted : (d : Draft) (answer : Result NetworkPlan NetRefusal) → (first_refusal d ≡ None → IsAccepted d) → OnOk answer (first_refusal d ≡ None)
    → OnOk answer (IsAccepted d)
is_accepted d (Ok net) law none = law none
is_accepted d (Err e) law none = tt

by_first : (d : Draft) (e : NetRefusal) → ((r : Refusal) → first_refusal d ≡ Some r → IsFirstRefusal d r.number r.place) → IsFound e (first_refusal d)
    → IsRefusal d e
by_first d NoMemory law found = tt
by_first d e law found = law (record { number = refusal_number e; place = refusal_place e }) found

-- what is found is the first refusal
pub is_refusal : (d : Draft) (answer : Result NetworkPlan NetRefusal) → ((r : Refusal) → first_refusal d ≡ Some r → IsFirstRefusal d r.number r.place)
    → IfErr answer (λ e. IsFound e (first_refusal d)) → IfErr answer (IsRefusal d)
is_refusal d (Ok net) law found = tt
is_refusal d (Err e) law found = by_first d e law found

-- a first refusal refuses no draft that breaks no rule
unbroken : (d : Draft) (e : NetRefusal) → IsAccepted d → IsRefusal d e → e ≡ NoMemory
unbroken d NoMemory fine refused = refl
unbroken d e fine refused = absurd (both_ways (breaks d (refusal_number e) (refusal_place e)) (fine (refusal_number e) (refusal_place e)) refused.broken)

-- so such a draft is refused for want of memory alone
pub only_memory : (d : Draft) (answer : Result NetworkPlan NetRefusal) → IfErr answer (IsRefusal d) → IsAccepted d → IfErr answer (λ e. e ≡ NoMemory)
only_memory d (Ok net) refused fine = tt
only_memory d (Err e) refused fine = unbroken d e fine refused

-- the refusal with a number and a place
refusal_with : Refusal → NetRefusal
refusal_with r =
    cond (eqb r.number 5) (Count r.place)
    (cond (eqb r.number 6) (Twice r.place)
    (cond (eqb r.number 7) (ArmCount r.place)
    (cond (eqb r.number 8) (NoSegment r.place)
    (cond (eqb r.number 9) (SameBox r.place)
    (cond (eqb r.number 10) (Ends r.place)
    (cond (eqb r.number 11) (At r.place)
    (cond (eqb r.number 12) (RouteShape r.place)
    (cond (eqb r.number 13) (RouteName r.place)
    (cond (eqb r.number 14) (RouteFit r.place) (cond (eqb r.number 15) (StartShared r.place) NoMemory))))))))))

abbrev numbered : NetRefusal → Refusal
numbered e = record { number = refusal_number e; place = refusal_place e }

refusal_with-own : (e : NetRefusal) → refusal_with (numbered e) ≡ e
unfolding refusal_with
refusal_with-own (Count p) = refl
refusal_with-own (Twice p) = refl
refusal_with-own (ArmCount p) = refl
refusal_with-own (NoSegment p) = refl
refusal_with-own (SameBox p) = refl
refusal_with-own (Ends p) = refl
refusal_with-own (At p) = refl
refusal_with-own (RouteShape p) = refl
refusal_with-own (RouteName p) = refl
refusal_with-own (RouteFit p) = refl
refusal_with-own (StartShared p) = refl
refusal_with-own NoMemory = refl

-- two refusals with one number and one place are one
same_refusal : (first : Option Refusal) (e q : NetRefusal) → first ≡ Some (numbered e) → first ≡ Some (numbered q) → e ≡ q
same_refusal first e q one other =
    let same : numbered e ≡ numbered q = cc in
    sym (refusal_with-own e) ∙ ap refusal_with same ∙ refusal_with-own q

-- any right answer is the one that is given, unless memory ran out
pub one_answer : (d : Draft) (answer other : Result NetworkPlan NetRefusal)
    → ((r : Refusal) → IsFirstRefusal d r.number r.place → first_refusal d ≡ Some r) → (IsAccepted d → first_refusal d ≡ None)
    → OnOk answer (first_refusal d ≡ None) → IfOk answer (λ net. net ≡ network_of d) → IfErr answer (λ e. IsFound e (first_refusal d)) → IsRight d other
    → UnlessMemory answer (answer ≡ other)
one_answer d (Ok net) (Ok own) found none accepted network refused right = ap (λ (n : NetworkPlan). Ok n) (network ∙ sym right.1)
one_answer d (Ok net) (Err q) found none accepted network refused right =
    let some : first_refusal d ≡ Some (numbered q) = found (numbered q) right in
    cc
one_answer d (Err NoMemory) other found none accepted network refused right = tt
one_answer d (Err e) (Ok own) found none accepted network refused right =
    let nothing : first_refusal d ≡ None = none right.0 in
    cc
one_answer d (Err e) (Err q) found none accepted network refused right =
    ap (λ (x : NetRefusal). Err x) (same_refusal (first_refusal d) e q refused (found (numbered q) right))
