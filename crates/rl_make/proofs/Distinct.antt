-- No name stands twice.
use Rattle.std.proofs.Common.{◌≡◌, ℕ, ◌<◌, ◌≤◌, ◌^◌, codes, decimal, Bool, false, List, [], ◌∷◌, ◌++◌, bytes_eq, refl, arith}
use Rattle.std.specs.List.{list_any}
use Rattle.rl_drafts.specs.Refusals.{is_twice}
use Rattle.rl_drafts.specs.Drafts.{box_names, train_names}
use Rattle.rl_base.specs.declared.draft.DraftBox.{DraftBox}
use Rattle.rl_base.specs.declared.draft.DraftTrain.{DraftTrain}
use Rattle.rl_make.specs.Ring.{upper, lower, middle, line, entry, exit, joint, segments_of, boxes_of, train_of, each, ring}
use Rattle.rl_make.proofs.Each.{any_more, any-each-none, map-each, Fresh, is_one_of, each_fresh, twice-fresh}
use Rattle.rl_make.proofs.Names.{differs}

one_more : (p : List ℕ → Bool) (xs : List (List ℕ)) (x : List ℕ) → list_any p xs ≡ false → p x ≡ false → list_any p (xs ++ x ∷ []) ≡ false
one_more p xs x h k = any_more p xs (x ∷ []) h (rw k)

segments_fresh : (m : ℕ) → m < 2 ^ 64 → Fresh is_one_of (each segments_of m) (segments_of m)
segments_fresh m fits =
    let earlier = each segments_of m in (
      any-each-none (λ x. bytes_eq x (upper m)) segments_of m (λ i l. rw (differs i m l fits)),
      (
        one_more (λ x. bytes_eq x (lower m)) earlier (upper m)
            (any-each-none (λ x. bytes_eq x (lower m)) segments_of m (λ i l. rw (differs i m l fits))) refl,
        (
          one_more (λ x. bytes_eq x (middle m)) (earlier ++ upper m ∷ []) (lower m)
              (one_more (λ x. bytes_eq x (middle m)) earlier (upper m)
              (any-each-none (λ x. bytes_eq x (middle m)) segments_of m (λ i l. rw (differs i m l fits))) refl) refl,
          (
            one_more (λ x. bytes_eq x (line m)) ((earlier ++ upper m ∷ []) ++ lower m ∷ []) (middle m)
                (one_more (λ x. bytes_eq x (line m)) (earlier ++ upper m ∷ []) (lower m)
                (one_more (λ x. bytes_eq x (line m)) earlier (upper m)
                (any-each-none (λ x. bytes_eq x (line m)) segments_of m (λ i l. rw (differs i m l fits))) refl) refl) refl,
            tt,
          ),
        ),
      ),
    )

pub segments_once : (n : ℕ) → n ≤ 32 → (i : ℕ) → is_twice (ring n).segments i ≡ false
segments_once n few i = twice-fresh (each segments_of n) (each_fresh is_one_of segments_of n (λ m l. segments_fresh m (omega arith))) i

abbrev pub names_of_boxes : ℕ → List (List ℕ)
names_of_boxes i = entry i ∷ exit i ∷ joint i ∷ []

boxes_fresh : (m : ℕ) → m < 2 ^ 64 → Fresh is_one_of (each names_of_boxes m) (names_of_boxes m)
boxes_fresh m fits =
    let earlier = each names_of_boxes m in (
      any-each-none (λ x. bytes_eq x (entry m)) names_of_boxes m (λ i l. rw (differs i m l fits)),
      (
        one_more (λ x. bytes_eq x (exit m)) earlier (entry m)
            (any-each-none (λ x. bytes_eq x (exit m)) names_of_boxes m (λ i l. rw (differs i m l fits))) refl,
        (
          one_more (λ x. bytes_eq x (joint m)) (earlier ++ entry m ∷ []) (exit m)
              (one_more (λ x. bytes_eq x (joint m)) earlier (entry m)
              (any-each-none (λ x. bytes_eq x (joint m)) names_of_boxes m (λ i l. rw (differs i m l fits))) refl) refl,
          tt,
        ),
      ),
    )

pub box_names-ring : (n : ℕ) → box_names (ring n) ≡ each names_of_boxes n
box_names-ring n = map-each (λ (x : DraftBox). x.name) (boxes_of n) n

pub boxes_once : (n : ℕ) → n ≤ 32 → (i : ℕ) → is_twice (box_names (ring n)) i ≡ false
boxes_once n few i = rw (box_names-ring n) (twice-fresh (each names_of_boxes n) (each_fresh is_one_of names_of_boxes n (λ m l. boxes_fresh m (omega arith))) i)

abbrev name_of_train : ℕ → List (List ℕ)
name_of_train i = (codes "T" ++ decimal i) ∷ []

trains_fresh : (m : ℕ) → m < 2 ^ 64 → Fresh is_one_of (each name_of_train m) (name_of_train m)
trains_fresh m fits =
    (any-each-none (λ x. bytes_eq x (codes "T" ++ decimal m)) name_of_train m (λ i l. rw (differs i m l fits)), tt)

train_names-ring : (n : ℕ) → train_names (ring n) ≡ each name_of_train n
train_names-ring n = map-each (λ (t : DraftTrain). t.name) (λ i. train_of n i ∷ []) n

pub trains_once : (n : ℕ) → n ≤ 32 → (i : ℕ) → is_twice (train_names (ring n)) i ≡ false
trains_once n few i = rw (train_names-ring n)
    (twice-fresh (each name_of_train n) (each_fresh is_one_of name_of_train n (λ m l. trains_fresh m (omega arith))) i)
