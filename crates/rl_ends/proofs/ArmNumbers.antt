-- The first end that names an arm, one end more, and the table that keeps it.
use Rattle.std.proofs.Common.{◌≡◌, ◌≢◌, ℕ, zero, suc, ◌+◌, ◌*◌, ◌<◌, Bool, true, false, cond, eqb, List, [], ◌∷◌, length, take, slice_get, replicate, set, Option, Some, None, option_map, inl, inr, refl, sym, ap, ◌∙◌, subst, arith}
use Rattle.std.proofs.lemmas.Bool.{and_parts, and_from, eqb-true, eq-eqb, cases_eq, false_from_ne_true}
use Rattle.std.proofs.lemmas.List.{get_or-replicate, length-replicate}
use Rattle.std.proofs.lemmas.Option.{none-some, same_Some, slice_get-get_or, slice_get_within}
use Rattle.std.specs.Option.{option_or}
use Rattle.rl_drafts.proofs.Lookups.{map_some}
use Rattle.rl_model.specs.declared.network.SegmentEnd.{SegmentEnd}
use Rattle.rl_ends.specs.EndsDrafts.{is_arm, end_number, named_arms}
use Rattle.rl_ends.specs.EndRules.{end_breaks}
use Rattle.rl_ends.specs.Tables.{Keeps}
use Rattle.rl_ends.specs.declared.ends_draft.EndsDraft.{EndsDraft}
use Rattle.rl_ends.proofs.EndLists.{IsArmOf, IsNamed}

-- an item that is put in its place, and the others
slice_get-set_same : {A : Type 0} (xs : List A) (i : ℕ) (v : A) → i < length xs → slice_get (set xs i v) i ≡ Some v
slice_get-set_same [] i v l = absurd (omega arith)
slice_get-set_same (x ∷ xs) zero v l = refl
slice_get-set_same (x ∷ xs) (suc i) v l = slice_get-set_same xs i v (omega arith)

slice_get-set_other : {A : Type 0} (xs : List A) (i j : ℕ) (v : A) → j ≢ i → slice_get (set xs i v) j ≡ slice_get xs j
slice_get-set_other [] i j v ne = refl
slice_get-set_other (x ∷ xs) zero zero v ne = absurd (ne refl)
slice_get-set_other (x ∷ xs) zero (suc j) v ne = refl
slice_get-set_other (x ∷ xs) (suc i) zero v ne = refl
slice_get-set_other (x ∷ xs) (suc i) (suc j) v ne = slice_get-set_other xs i j v (λ (e : j ≡ i). ne (ap suc e))

-- one end more, which is end k
one_more : (t : Bool) (u : Option ℕ) (here : Bool) (k : ℕ)
    → cond t (Some 0) (option_map suc (option_or u (cond here (Some k) None)))
    ≡ option_or (cond t (Some 0) (option_map suc u)) (cond here (Some (suc k)) None)
one_more true u here k = refl
one_more false (Some i) here k = refl
one_more false None true k = refl
one_more false None false k = refl

first_one : (t : Bool) → cond t (Some 0) (option_map suc None) ≡ option_or None (cond t (Some 0) None)
first_one true = refl
first_one false = refl

pub end_number_more : (os : List (Option SegmentEnd)) (k : ℕ) (o : Option SegmentEnd) (b x : ℕ) → slice_get os k ≡ Some o
    → end_number (take (suc k) os) b x ≡ option_or (end_number (take k os) b x) (cond (is_arm b x o) (Some k) None)
end_number_more [] k o b x e = absurd (none-some o e)
end_number_more (p ∷ os) zero o b x e = let same : p ≡ o = same_Some p o e in rw (← same) (first_one (is_arm b x p))
end_number_more (p ∷ os) (suc k) o b x e =
    ap (λ (u : Option ℕ). cond (is_arm b x p) (Some 0) (option_map suc u)) (end_number_more os k o b x e)
    ∙ one_more (is_arm b x p) (end_number (take k os) b x) (is_arm b x o) k

-- the number of an end that is found is below the number of ends
pub end_number-within : (os : List (Option SegmentEnd)) (b x k : ℕ) → end_number os b x ≡ Some k → k < length os
end_number-within [] b x k e = absurd (none-some k e)
end_number-within (o ∷ os) b x k e = at (is_arm b x o) k e (end_number-within os b x)
  where
    at : (t : Bool) (k : ℕ) → cond t (Some 0) (option_map suc (end_number os b x)) ≡ Some k
        → ((j : ℕ) → end_number os b x ≡ Some j → j < length os) → k < suc (length os)
    at true k e rest = let s : 0 ≡ k = same_Some 0 k e in omega arith
    at false k e rest =
        let m = map_some suc (end_number os b x) k e in
        let l = rest m.0 m.1 in
        let s : suc m.0 ≡ k = m.2 in
        omega arith

-- and that end names the arm
pub end_number-found : (os : List (Option SegmentEnd)) (b x k : ℕ) → end_number os b x ≡ Some k → (o : Option SegmentEnd) × (slice_get os k ≡ Some o) × (is_arm b x o ≡ true)
end_number-found [] b x k e = absurd (none-some k e)
end_number-found (o ∷ os) b x k e = at (is_arm b x o) refl k e (end_number-found os b x)
  where
    at : (t : Bool) → is_arm b x o ≡ t → (k : ℕ) → cond t (Some 0) (option_map suc (end_number os b x)) ≡ Some k
        → ((j : ℕ) → end_number os b x ≡ Some j → (u : Option SegmentEnd) × (slice_get os j ≡ Some u) × (is_arm b x u ≡ true))
        → (u : Option SegmentEnd) × (slice_get (o ∷ os) k ≡ Some u) × (is_arm b x u ≡ true)
    at true t k e rest =
        (o, subst (λ (m : ℕ). slice_get (o ∷ os) m ≡ Some o) (same_Some 0 k e) refl, t)
    at false t k e rest =
        let m = map_some suc (end_number os b x) k e in
        let r = rest m.0 m.1 in
        (r.0, subst (λ (n : ℕ). slice_get (o ∷ os) n ≡ Some r.0) m.2 r.1, r.2)

-- nothing is noted in an empty table
pub Keeps-empty : (n m : ℕ) → m ≡ 4 * n → Keeps n [] (replicate m None)
Keeps-empty n m all b x bl xl =
    let count = length-replicate {A = Option ℕ} m None in
    slice_get-get_or (replicate m None) (4 * b + x) None (omega arith)
    ∙ ap Some (get_or-replicate m (4 * b + x) None None (omega arith))

-- end k is noted at the arm that it names
pub Keeps-put : (n k : ℕ) (os : List (Option SegmentEnd)) (e : SegmentEnd) (old new : List (Option ℕ)) → slice_get os k ≡ Some (Some e) → IsArmOf n e
    → Keeps n (take k os) old → slice_get old (4 * e.at.0 + e.arm.0) ≡ Some None → new ≡ set old (4 * e.at.0 + e.arm.0) (Some k)
    → Keeps n (take (suc k) os) new
Keeps-put n k os e old new there own keeps free is b x bl xl =
    let place : ℕ = 4 * e.at.0 + e.arm.0 in
    let within = slice_get_within old place None free in
    let none : end_number (take k os) e.at.0 e.arm.0 ≡ None =
    sym (same_Some None (end_number (take k os) e.at.0 e.arm.0) (sym free ∙ keeps e.at.0 e.arm.0 own.box own.arm)) in
    let more = end_number_more os k (Some e) b x there in
    elim (cases_eq (4 * b + x) place) [
      | inl same ↦
          (let arm_small = own.arm in
          let eb : b ≡ e.at.0 = omega arith in
          let ex : x ≡ e.arm.0 = omega arith in
          let test : is_arm b x (Some e) ≡ true = and_from _ _ (eq-eqb e.at.0 b (sym eb)) (eq-eqb e.arm.0 x (sym ex)) in
          let before : end_number (take k os) b x ≡ None = rw (eb, ex) none in
          let now : end_number (take (suc k) os) b x ≡ Some k =
          more ∙ (ap (λ (t : Bool). option_or (end_number (take k os) b x) (cond t (Some k) None)) test
          ∙ ap (λ (u : Option ℕ). option_or u (Some k)) before) in
          ap (λ (t : List (Option ℕ)). slice_get t (4 * b + x)) is
          ∙ (ap (slice_get (set old place (Some k))) same ∙ (slice_get-set_same old place (Some k) within ∙ ap Some (sym now))))
      | inr apart ↦
          (let test : is_arm b x (Some e) ≡ false = false_from_ne_true (is_arm b x (Some e)) (λ (t : is_arm b x (Some e) ≡ true).
          let p = and_parts (eqb e.at.0 b) (eqb e.arm.0 x) t in
          let p0 : e.at.0 ≡ b = eqb-true e.at.0 b p.0 in
          let p1 : e.arm.0 ≡ x = eqb-true e.arm.0 x p.1 in
          apart (omega arith)) in
          let now : end_number (take (suc k) os) b x ≡ end_number (take k os) b x =
          more ∙ (ap (λ (t : Bool). option_or (end_number (take k os) b x) (cond t (Some k) None)) test ∙ or_none (end_number (take k os) b x)) in
          ap (λ (t : List (Option ℕ)). slice_get t (4 * b + x)) is
          ∙ (slice_get-set_other old place (4 * b + x) (Some k) apart ∙ (keeps b x bl xl ∙ ap Some (sym now))))
    ]
  where
    or_none : (u : Option ℕ) → option_or u None ≡ u
    or_none None = refl
    or_none (Some i) = refl

-- an end at whose arm nothing is noted keeps rule 24, and one at whose arm another is noted breaks it
pub arm_free : (d : EndsDraft) (k : ℕ) (e : SegmentEnd) (table : List (Option ℕ)) → IsNamed d k e
    → Keeps (length d.boxes) (take k (named_arms d)) table → slice_get table (4 * e.at.0 + e.arm.0) ≡ Some None → end_breaks d 24 k ≡ false
arm_free d k e table own keeps free =
    let none : end_number (take k (named_arms d)) e.at.0 e.arm.0 ≡ None =
    sym (same_Some None _ (sym free ∙ keeps e.at.0 e.arm.0 own.of_box.box own.of_box.arm)) in
    let there = own.named in
    rw (there, none) refl

pub arm_twice : (d : EndsDraft) (k : ℕ) (e : SegmentEnd) (j : ℕ) (table : List (Option ℕ)) → IsNamed d k e
    → Keeps (length d.boxes) (take k (named_arms d)) table → slice_get table (4 * e.at.0 + e.arm.0) ≡ Some (Some j) → end_breaks d 24 k ≡ true
arm_twice d k e j table own keeps taken =
    let some : end_number (take k (named_arms d)) e.at.0 e.arm.0 ≡ Some j =
    sym (same_Some (Some j) _ (sym taken ∙ keeps e.at.0 e.arm.0 own.of_box.box own.of_box.arm)) in
    let there = own.named in
    rw (there, some) refl
