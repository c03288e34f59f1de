-- The ends of a segment, one arm and one box more, and the table of the first two of each.
use Rattle.std.proofs.Common.{◌≡◌, ◌≢◌, ℕ, zero, suc, ◌+◌, ◌<◌, Bool, true, false, cond, List, [], ◌∷◌, ◌++◌, length, take, get_or, slice_get, replicate, Some, None, is_some, inl, inr, refl, sym, ap, ◌∙◌, arith, add-zero, append-nil, append_assoc, bytes_eq, if◌then◌else◌}
use Rattle.std.proofs.lemmas.Bool.{false≢true, cases_eq, false_from_ne_true}
use Rattle.std.proofs.lemmas.List.{get_or-replicate, length-replicate}
use Rattle.std.proofs.lemmas.Option.{same_Some, slice_get-get_or}
use Rattle.rl_base.specs.declared.draft.DraftBox.{DraftBox}
use Rattle.rl_model.specs.declared.network.SegmentEnd.{SegmentEnd}
use Rattle.rl_drafts.specs.Drafts.{number_in, end_at, ends_in_box, ends_from}
use Rattle.rl_drafts.proofs.Numbers.{AreDistinct-from_twice, same_from_bytes_eq, bytes_eq_from_same, number_in-item, is_among-item}
use Rattle.rl_ends.specs.SegmentEnds.{pair_of, KeepsPairs, AreUnlike}
use Rattle.rl_ends.specs.declared.segment_ends.Pair.{Pair}

-- the end at the arm, if it has the name
abbrev pub end_if : Bool → ℕ → ℕ → List SegmentEnd
end_if b box i = cond b (end_at box i ∷ []) []

-- a step of the list, whatever stands before it
cons_if : (t : Bool) (e : SegmentEnd) (before added after : List SegmentEnd) → after ≡ before ++ added
    → (if t then e ∷ after else after) ≡ (if t then e ∷ before else before) ++ added
cons_if true e before added after h = ap (λ r. e ∷ r) h
cons_if false e before added after h = h

-- the arms up to and with arm i
pub ends_in_box_more : (b k : ℕ) (arms : List (List ℕ)) (name : List ℕ) (i : ℕ) (arm : List ℕ) → i < length arms → arm ≡ get_or arms i arm
    → ends_in_box b k (take (suc i) arms) name ≡ ends_in_box b k (take i arms) name ++ end_if (bytes_eq arm name) b (k + i)
ends_in_box_more b k [] name i arm lt e = absurd (omega arith)
ends_in_box_more b k (x ∷ xs) name zero arm lt e = rw (e, add-zero) refl
ends_in_box_more b k (x ∷ xs) name (suc i) arm lt e =
    let here : k + suc i ≡ suc k + i = omega arith in
    let rest = ends_in_box_more b (suc k) xs name i arm (omega arith) e in
    rw here (cons_if (bytes_eq x name) (end_at b k) _ _ _ rest)

-- the boxes up to and with box i
pub ends_from_more : (k : ℕ) (boxes : List DraftBox) (name : List ℕ) (i : ℕ) (x : DraftBox) → i < length boxes → x ≡ get_or boxes i x
    → ends_from k (take (suc i) boxes) name ≡ ends_from k (take i boxes) name ++ ends_in_box (k + i) 0 x.arms name
ends_from_more k [] name i x lt e = absurd (omega arith)
ends_from_more k (y ∷ ys) name zero x lt e = rw (add-zero, append-nil) (ap (λ (z : DraftBox). ends_in_box k 0 z.arms name) (sym e))
ends_from_more k (y ∷ ys) name (suc i) x lt e =
    let here : k + suc i ≡ suc k + i = omega arith in
    let rest = ends_from_more (suc k) ys name i x (omega arith) e in
    rw (here, append_assoc) (ap (λ r. ends_in_box k 0 y.arms name ++ r) rest)

-- an arm that names no segment adds nothing
pub keeps_none : (names : List (List ℕ)) (table : List Pair) (ends : List ℕ → List SegmentEnd) (b i : ℕ) (arm : List ℕ) → number_in names arm ≡ None
    → KeepsPairs names table ends → KeepsPairs names table (λ name. ends name ++ end_if (bytes_eq arm name) b i)
keeps_none names table ends b i arm none keeps s name there =
    let other : bytes_eq arm name ≡ false = false_from_ne_true (bytes_eq arm name) (λ e.
    let same = same_from_bytes_eq arm name e in
    let known = is_among-item names arm s (there ∙ ap Some (sym same)) in
    false≢true (sym (ap is_some none) ∙ known)) in
    rw other (keeps s name there ∙ ap (λ es. Some (pair_of es)) (sym (append-nil (ends name))))

-- an arm that names a segment adds an end to that one
pub keeps_one : (names : List (List ℕ)) (old new : List Pair) (ends : List ℕ → List SegmentEnd) (b i k : ℕ) (arm : List ℕ) → AreUnlike names
    → number_in names arm ≡ Some k
    → ((es : List SegmentEnd) → slice_get old k ≡ Some (pair_of es) → slice_get new k ≡ Some (pair_of (es ++ end_at b i ∷ [])))
    → ((s : ℕ) → s ≢ k → slice_get new s ≡ slice_get old s)
    → KeepsPairs names old ends → KeepsPairs names new (λ name. ends name ++ end_if (bytes_eq arm name) b i)
keeps_one names old new ends b i k arm unlike number changed others keeps s name there =
    elim (cases_eq s k) [
      | inl here ↦
          (let at : slice_get names k ≡ Some name = rw (← here) there in
          let same : arm ≡ name = same_Some arm name (sym (number_in-item names arm k number) ∙ at) in
          let is : bytes_eq arm name ≡ true = bytes_eq_from_same arm name same in
          let kept : slice_get old k ≡ Some (pair_of (ends name)) = rw (← here) (keeps s name there) in
          rw (is, here) (changed (ends name) kept))
      | inr away ↦
          (let other : bytes_eq arm name ≡ false = false_from_ne_true (bytes_eq arm name) (λ e.
          let same = same_from_bytes_eq arm name e in
          away ((AreDistinct-from_twice names unlike).same s k name there (number_in-item names arm k number ∙ ap Some same))) in
          rw other (others s away ∙ keeps s name there ∙ ap (λ es. Some (pair_of es)) (sym (append-nil (ends name)))))
    ]

-- the same ends said in another way
pub keeps_same : (names : List (List ℕ)) (table : List Pair) (f g : List ℕ → List SegmentEnd) → ((name : List ℕ) → f name ≡ g name) → KeepsPairs names table f
    → KeepsPairs names table g
keeps_same names table f g same keeps s name there = keeps s name there ∙ ap (λ es. Some (pair_of es)) (same name)

-- an item of a list that is one thing again and again
pub repeated : {A : Type 0} (n : ℕ) (x : A) (s : ℕ) → s < n → slice_get (replicate n x) s ≡ Some x
repeated n x s within =
    slice_get-get_or (replicate n x) s x (let count = length-replicate n x in omega arith) ∙ ap Some (get_or-replicate n s x x within)
