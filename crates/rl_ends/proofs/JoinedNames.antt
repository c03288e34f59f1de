-- The names of the draft that ends say are names where theirs are.
use Rattle.std.proofs.Common.{◌≡◌, ℕ, zero, suc, ◌+◌, ◌/◌, ◌<◌, ◌≤◌, Bool, true, false, List, [], ◌∷◌, ◌++◌, slice_get, Option, Some, None, is_none, inl, inr, refl, sym, ap, ◌∙◌, subst, arith}
use Rattle.std.specs.List.{list_all}
use Rattle.std.specs.Option.{option_map_or}
use Rattle.std.proofs.lemmas.Bool.{and_from, and_parts, or_parts, cases_lt, false≢true}
use Rattle.std.proofs.lemmas.List.Folds.{list_all-map}
use Rattle.rl_base.specs.Draft.{HasNames}
use Rattle.rl_base.specs.Kind.{arms_of}
use Rattle.rl_base.specs.Name.{is_name}
use Rattle.rl_base.specs.declared.draft.DraftBox.{DraftBox}
use Rattle.rl_base.specs.declared.place.Place.TheVariants as place
use Rattle.rl_drafts.proofs.Lookups.{all_at, item_within}
use Rattle.rl_ends.specs.EndsDrafts.{named_arms, end_number, segment_name, arm_name, arm_names, joined_boxes, draft_of}
use Rattle.rl_ends.specs.EndRules.{any_below, has_free_arm, IsUnbroken}
use Rattle.rl_ends.specs.EndsNames.{HasEndNames}
use Rattle.rl_ends.specs.declared.ends_draft.EndsSegment.{EndsSegment}
use Rattle.rl_ends.specs.declared.ends_draft.EndsBox.{EndsBox}
use Rattle.rl_ends.specs.declared.ends_draft.EndsDraft.{EndsDraft}
use Rattle.rl_ends.proofs.Found.{half_within}

-- a test that passes nowhere below n
nowhere_below : (test : ℕ → Bool) (n : ℕ) → any_below test n ≡ false → (j : ℕ) → j < n → test j ≡ false
nowhere_below test zero h j l = absurd (omega arith)
nowhere_below test (suc n) h j l =
    let p = or_parts (any_below test n) (test n) h in
    elim (cases_lt j n) [ inl a ↦ nowhere_below test n p.0 j a | inr a ↦ (let same : n ≡ j = omega arith in subst (λ (m : ℕ). test m ≡ false) same p.1) ]

-- what isn't nothing is something
some_there : {A : Type 0} (o : Option A) → is_none o ≡ false → (x : A) × (o ≡ Some x)
some_there None e = absurd (false≢true (sym e))
some_there (Some x) e = (x, refl)

all_append : (xs : List (List ℕ)) (x : List ℕ) → list_all is_name xs ≡ true → is_name x ≡ true → list_all is_name (xs ++ x ∷ []) ≡ true
all_append [] x h e = and_from (is_name x) true e refl
all_append (y ∷ ys) x h e = let p = and_parts (is_name y) _ h in and_from (is_name y) _ p.0 (all_append ys x p.1 e)

module _ (d : EndsDraft) (fine : IsUnbroken d) (names : HasEndNames d) where
  -- the name at an arm is that of a segment
  arm_is_name : (b : ℕ) (x : EndsBox) → slice_get d.boxes b ≡ Some x → (arm : ℕ) → arm < arms_of x.kind → is_name (arm_name d b arm) ≡ true
  arm_is_name b x there arm l =
      let full : has_free_arm d b x ≡ false =
      sym (ap (λ (o : Option EndsBox). option_map_or (has_free_arm d b) o false) there) ∙ fine 25 (place.BoxItem b) in
      let k = some_there (end_number (named_arms d) b arm)
      (nowhere_below (λ i. is_none (end_number (named_arms d) b i)) (arms_of x.kind) full arm l) in
      let within = half_within d b arm k.0 k.1 in
      let g = item_within d.segments (k.0 / 2) (omega arith) in
      let own : arm_name d b arm ≡ g.0.name =
      ap (λ (o : Option ℕ). option_map_or (segment_name d) o []) k.1 ∙ ap (λ (o : Option EndsSegment). option_map_or (λ (h : EndsSegment). h.name) o []) g.1 in
      ap is_name own ∙ all_at (λ (h : EndsSegment). is_name h.name) d.segments (k.0 / 2) g.0 names.segments g.1

  arms_are_names : (b : ℕ) (x : EndsBox) → slice_get d.boxes b ≡ Some x → (n : ℕ) → n ≤ arms_of x.kind → list_all is_name (arm_names d b n) ≡ true
  arms_are_names b x there zero l = refl
  arms_are_names b x there (suc n) l =
      all_append (arm_names d b n) (arm_name d b n) (arms_are_names b x there n (omega arith)) (arm_is_name b x there n (omega arith))

  all_arms : (b : ℕ) (xs : List EndsBox) → ((k : ℕ) (x : EndsBox) → slice_get xs k ≡ Some x → slice_get d.boxes (b + k) ≡ Some x)
      → list_all (λ (y : DraftBox). list_all is_name y.arms) (joined_boxes d b xs) ≡ true
  all_arms b [] each = refl
  all_arms b (x ∷ xs) each =
      let here : b + 0 ≡ b = omega arith in
      and_from _ _ (arms_are_names b x (subst (λ (i : ℕ). slice_get d.boxes i ≡ Some x) here (each 0 x refl)) (arms_of x.kind) (omega arith))
      (all_arms (suc b) xs later)
    where
      later : (k : ℕ) (y : EndsBox) → slice_get xs k ≡ Some y → slice_get d.boxes (suc b + k) ≡ Some y
      later k y e =
          let next : b + suc k ≡ suc b + k = omega arith in
          subst (λ (i : ℕ). slice_get d.boxes i ≡ Some y) next (each (suc k) y e)

  box_names_stay : (b : ℕ) (xs : List EndsBox) → list_all (λ (x : EndsBox). is_name x.name) xs ≡ true
      → list_all (λ (y : DraftBox). is_name y.name) (joined_boxes d b xs) ≡ true
  box_names_stay b [] h = refl
  box_names_stay b (x ∷ xs) h = let p = and_parts (is_name x.name) _ h in and_from (is_name x.name) _ p.0 (box_names_stay (suc b) xs p.1)

  pub joined_names : HasNames (draft_of d)
  joined_names =
      let from_start : (k : ℕ) (x : EndsBox) → slice_get d.boxes k ≡ Some x → slice_get d.boxes (0 + k) ≡ Some x =
      λ k x e. let same : k ≡ 0 + k = omega arith in subst (λ (i : ℕ). slice_get d.boxes i ≡ Some x) same e in
      record {
        segments = list_all-map is_name (λ (g : EndsSegment). g.name) d.segments ∙ names.segments;
        boxes = box_names_stay 0 d.boxes names.boxes;
        arms = all_arms 0 d.boxes from_start;
        trains = names.trains;
        routes = names.routes;
      }
