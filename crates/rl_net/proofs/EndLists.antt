-- The ends of a segment, one arm and one box more.
use Rattle.std.proofs.Common.{◌≡◌, ℕ, zero, suc, ◌+◌, ◌<◌, Bool, true, false, cond, List, [], ◌∷◌, ◌++◌, length, take, get_or, refl, sym, ap, arith, add-zero, append-nil, append_assoc, bytes_eq, if◌then◌else◌}
use Rattle.rl_base.specs.declared.draft.DraftBox.{DraftBox}
use Rattle.rl_model.specs.declared.network.SegmentEnd.{SegmentEnd}
use Rattle.rl_drafts.specs.Drafts.{end_at, ends_in_box, ends_from}

-- the end at the arm, if it has the name
abbrev pub end_if : Bool → ℕ → ℕ → List SegmentEnd
end_if b box i = cond b (end_at box i ∷ []) []

-- a step of the list, whatever stands before it
cons_if : (t : Bool) (e : SegmentEnd) (before added after : List SegmentEnd) → after ≡ before ++ added
    → (if t then e ∷ after else after) ≡ (if t then e ∷ before else before) ++ added
cons_if true e before added after h = ap (λ r. e ∷ r) h
cons_if false e before added after h = h

-- the arms up to and with arm i
pub ends_in_box_more : (b k : ℕ) (arms : List (List ℕ)) (name : List ℕ) (i : ℕ) (arm : List ℕ) → i < length arms → arm ≡ get_or arms i arm
    → ends_in_box b k (take (suc i) arms) name ≡ ends_in_box b k (take i arms) name ++ end_if (bytes_eq arm name) b (k + i)
ends_in_box_more b k [] name i arm lt e = absurd (omega arith)
ends_in_box_more b k (x ∷ xs) name zero arm lt e = rw (e, add-zero) refl
ends_in_box_more b k (x ∷ xs) name (suc i) arm lt e =
    let here : k + suc i ≡ suc k + i = omega arith in
    let rest = ends_in_box_more b (suc k) xs name i arm (omega arith) e in
    rw here (cons_if (bytes_eq x name) (end_at b k) _ _ _ rest)

-- the boxes up to and with box i
pub ends_from_more : (k : ℕ) (boxes : List DraftBox) (name : List ℕ) (i : ℕ) (x : DraftBox) → i < length boxes → x ≡ get_or boxes i x
    → ends_from k (take (suc i) boxes) name ≡ ends_from k (take i boxes) name ++ ends_in_box (k + i) 0 x.arms name
ends_from_more k [] name i x lt e = absurd (omega arith)
ends_from_more k (y ∷ ys) name zero x lt e = rw (add-zero, append-nil) (ap (λ (z : DraftBox). ends_in_box k 0 z.arms name) (sym e))
ends_from_more k (y ∷ ys) name (suc i) x lt e =
    let here : k + suc i ≡ suc k + i = omega arith in
    let rest = ends_from_more (suc k) ys name i x (omega arith) e in
    rw (here, append_assoc) (ap (λ r. ends_in_box k 0 y.arms name ++ r) rest)
