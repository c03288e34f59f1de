-- A draft that is whole comes back from its segments with ends, and these break no rule.
use Rattle.std.proofs.Common.{◌≡◌, ℕ, zero, suc, ◌+◌, ◌*◌, ◌/◌, ◌%◌, ◌<◌, ◌≤◌, Bool, true, false, cond, ltb, eqb, not, List, [], ◌∷◌, ◌++◌, length, map, take, get_or, slice_get, Option, Some, None, is_some, is_none, option_map, ◌&&◌, refl, sym, ap, ap₂, ◌∙◌, subst, arith, add-one}
use Rattle.std.specs.Option.{option_map_or}
use Rattle.std.proofs.lemmas.Bool.{false≢true, and_right, or_from, lt-ltb, eq-eqb, ne_eqb}
use Rattle.std.proofs.lemmas.List.{take_all, take_more, length-take}
use Rattle.std.proofs.lemmas.Option.{same_Some, slice_get-map, slice_get_within, get_or_from_slice_get}
use Rattle.rl_base.specs.Kind.{arms_of}
use Rattle.rl_base.specs.declared.draft.Draft.{Draft}
use Rattle.rl_base.specs.declared.draft.DraftBox.{DraftBox}
use Rattle.rl_base.specs.declared.draft.DraftTrain.{DraftTrain}
use Rattle.rl_base.specs.declared.place.Place.TheVariants as place
use Rattle.rl_model.specs.declared.network.SegmentEnd.{SegmentEnd}
use Rattle.rl_drafts.specs.Drafts.{end_at}
use Rattle.rl_drafts.proofs.Lookups.{item_mapped, mapped_item, item_within, item_before, some_value}
use Rattle.rl_drafts.proofs.Numbers.{number_in-item}
use Rattle.rl_ends.specs.EndNames.{end_of}
use Rattle.rl_ends.specs.EndsDrafts.{texts_of, box_names as ends_box_names, named_arm, named_arms, is_arm, end_number, segment_name, arm_name, arm_names, joined_box, joined_boxes, draft_of}
use Rattle.rl_ends.specs.EndRules.{has_arm, any_below, end_breaks, breaks, IsUnbroken}
use Rattle.rl_ends.specs.EndRefusals.{IsKept}
use Rattle.rl_ends.specs.Parted.{IsWhole, parted_segment, parted_box, parted}
use Rattle.rl_ends.specs.declared.ends_draft.EndsSegment.{EndsSegment}
use Rattle.rl_ends.specs.declared.ends_draft.EndsBox.{EndsBox}
use Rattle.rl_ends.specs.declared.ends_draft.EndsDraft.{EndsDraft}
use Rattle.rl_ends.proofs.Answered.{below_21, kept_more, unbroken}
use Rattle.rl_ends.proofs.ArmNumbers.{end_number-within, end_number-found}
use Rattle.rl_ends.proofs.PartedEnds.{IsEndOf, low_end, high_end, one_name, text_says, text_names, parted_end, same_arm, distinct_segments, arm_found}
use Rattle.rl_ends.proofs.Rules.{kept_ends, kept_boxes}

-- a test that fails at each number below n
none_below : (test : ℕ → Bool) (n : ℕ) → ((j : ℕ) → j < n → test j ≡ false) → any_below test n ≡ false
none_below test zero each = refl
none_below test (suc n) each = or_from (any_below test n) (test n) (none_below test n (λ j l. each j (omega arith))) (each n (omega arith))

-- the names of the segments stay
segments-parted : (d : Draft) (names : List (List ℕ)) → map (λ (g : EndsSegment). g.name) (map (parted_segment d) names) ≡ names
segments-parted d [] = refl
segments-parted d (name ∷ names) = ap (λ (ns : List (List ℕ)). name ∷ ns) (segments-parted d names)

-- an end before another of one segment
first_of_two : (j k : ℕ) → j < k → j / 2 ≡ k / 2 → (j % 2 ≡ 0) × (k % 2 ≡ 1)
first_of_two j k l h = (omega arith, omega arith)

module _ (d : Draft) (whole : IsWhole d) where
  -- end k, which names arm e
  record IsOwn (k : ℕ) (e : SegmentEnd) : Type 0 where
    name : List ℕ
    segment : slice_get d.segments (k / 2) ≡ Some name
    which : e ≡ cond (eqb (k % 2) 0) (low_end d name) (high_end d name)
    there : IsEndOf d name e

  own_end : (k : ℕ) (e : SegmentEnd) → slice_get (named_arms (parted d)) k ≡ Some (Some e) → IsOwn k e
  own_end k e h =
      let m = mapped_item (named_arm (ends_box_names (parted d))) (texts_of (parted d).segments) k (Some e) h in
      let p = parted_end d whole k m.0 m.1 in
      let names = ap (named_arm (ends_box_names (parted d))) p.text ∙ text_names d whole p.name p.end p.there in
      let same : p.end ≡ e = same_Some p.end e (sym names ∙ m.2) in
      record {
        name = p.name;
        segment = p.segment;
        which = sym same ∙ p.which;
        there = subst (IsEndOf d p.name) same p.there;
      }

  keeps_21 : (k : ℕ) → end_breaks (parted d) 21 k ≡ false
  keeps_21 k = at (slice_get (texts_of (parted d).segments) k) refl
    where
      at : (o : Option (List ℕ)) → slice_get (texts_of (parted d).segments) k ≡ o → option_map_or (λ (text : List ℕ). is_none (end_of text)) o false ≡ false
      at None e = refl
      at (Some text) e =
          let p = parted_end d whole k text e in
          ap is_none (ap end_of p.text ∙ text_says d whole p.name p.end p.there)

  keeps_22 : (k : ℕ) → end_breaks (parted d) 22 k ≡ false
  keeps_22 k = at (slice_get (texts_of (parted d).segments) k) refl
    where
      at : (o : Option (List ℕ)) → slice_get (texts_of (parted d).segments) k ≡ o
          → option_map_or (λ (text : List ℕ). is_some (end_of text) && is_none (named_arm (ends_box_names (parted d)) text)) o false ≡ false
      at None e = refl
      at (Some text) e =
          let p = parted_end d whole k text e in
          and_right (is_some (end_of text)) _
          (ap is_none (ap (named_arm (ends_box_names (parted d))) p.text ∙ text_names d whole p.name p.end p.there))

  has_own_arm : (name : List ℕ) (e : SegmentEnd) → IsEndOf d name e → has_arm (parted d) e ≡ true
  has_own_arm name e k =
      let there = item_mapped parted_box d.boxes e.at.0 k.item k.box in
      let within = slice_get_within k.item.arms e.arm.0 name k.arm in
      let count = whole.arm_counts e.at.0 k.item k.box in
      ap (λ (o : Option EndsBox). option_map_or (λ (x : EndsBox). ltb e.arm.0 (arms_of x.kind)) o false) there
      ∙ lt-ltb e.arm.0 (arms_of k.item.kind) (omega arith)

  keeps_23 : (k : ℕ) → end_breaks (parted d) 23 k ≡ false
  keeps_23 k = at (slice_get (named_arms (parted d)) k) refl
    where
      at : (o : Option (Option SegmentEnd)) → slice_get (named_arms (parted d)) k ≡ o
          → option_map_or (λ (u : Option SegmentEnd). option_map_or (λ (e : SegmentEnd). not (has_arm (parted d) e)) u false) o false ≡ false
      at None h = refl
      at (Some None) h = refl
      at (Some (Some e)) h = let p = own_end k e h in ap not (has_own_arm p.name e p.there)

  -- no end before it names the arm
  not_before : (k : ℕ) (e : SegmentEnd) → IsOwn k e → (j : ℕ) → end_number (take k (named_arms (parted d))) e.at.0 e.arm.0 ≡ Some j → ⊥
  not_before k e p j h =
      let os = named_arms (parted d) in
      let within = end_number-within (take k os) e.at.0 e.arm.0 j h in
      let count = length-take k os in
      let before : j < k = omega arith in
      let f = end_number-found (take k os) e.at.0 e.arm.0 j h in
      at before f.0 (sym (item_before k j os before) ∙ f.1) f.2
    where
      two : (q : IsOwn j e) → j < k → ⊥
      two q before =
          let named = one_name d q.name p.name e q.there p.there in
          let half : j / 2 ≡ k / 2 =
          (distinct_segments d whole).same (j / 2) (k / 2) p.name (q.segment ∙ ap (λ (n : List ℕ). Some n) named) p.segment in
          let places = first_of_two j k before half in
          let low : e ≡ low_end d q.name =
          q.which ∙ ap (λ (b : Bool). cond b (low_end d q.name) (high_end d q.name)) (eq-eqb (j % 2) 0 places.0) in
          let odd : eqb (k % 2) 0 ≡ false = ne_eqb (k % 2) 0 (λ (z : k % 2 ≡ 0). let o = places.1 in absurd (omega arith)) in
          let high : e ≡ high_end d p.name = p.which ∙ ap (λ (b : Bool). cond b (low_end d p.name) (high_end d p.name)) odd in
          let one : low_end d p.name ≡ high_end d p.name = sym (low ∙ ap (low_end d) named) ∙ high in
          (whole.ends (k / 2) p.name p.segment).apart (ap (λ (u : SegmentEnd). u.at.0) one)

      at : j < k → (o : Option SegmentEnd) → slice_get (named_arms (parted d)) j ≡ Some o → is_arm e.at.0 e.arm.0 o ≡ true → ⊥
      at before None there t = false≢true t
      at before (Some u) there t =
          let same : u ≡ e = same_arm d whole e u t in
          two (own_end j e (there ∙ ap (λ (v : SegmentEnd). Some (Some v)) same)) before

  keeps_24 : (k : ℕ) → end_breaks (parted d) 24 k ≡ false
  keeps_24 k = at (slice_get (named_arms (parted d)) k) refl
    where
      none : (e : SegmentEnd) → IsOwn k e → (o : Option ℕ) → end_number (take k (named_arms (parted d))) e.at.0 e.arm.0 ≡ o → is_some o ≡ false
      none e p None h = refl
      none e p (Some j) h = absurd (not_before k e p j h)

      at : (o : Option (Option SegmentEnd)) → slice_get (named_arms (parted d)) k ≡ o
          → option_map_or (λ (u : Option SegmentEnd).
          option_map_or (λ (e : SegmentEnd). is_some (end_number (take k (named_arms (parted d))) e.at.0 e.arm.0)) u false) o false
          ≡ false
      at None h = refl
      at (Some None) h = refl
      at (Some (Some e)) h = none e (own_end k e h) (end_number (take k (named_arms (parted d))) e.at.0 e.arm.0) refl

  -- the end that names an arm is one of the segment whose name stands there
  record IsNamedAs (b x : ℕ) (name : List ℕ) : Type 0 where
    number : ℕ
    found : end_number (named_arms (parted d)) b x ≡ Some number
    segment : segment_name (parted d) number ≡ name

  named_as : (b x : ℕ) (item : DraftBox) (name : List ℕ) → slice_get d.boxes b ≡ Some item → slice_get item.arms x ≡ Some name → IsNamedAs b x name
  named_as b x item name there arm =
      let s = some_value _ (whole.arms b x item name there arm) in
      let segment = number_in-item d.segments name s.0 s.1 in
      let f = arm_found d whole name (end_at b x) s.0 segment (record { item = item; box = there; arm = arm }) in
      record {
        number = f.0;
        found = f.1;
        segment =
            ap (λ (i : ℕ). option_map_or (λ (g : EndsSegment). g.name) (slice_get (parted d).segments i) []) f.2
            ∙ ap (λ (o : Option EndsSegment). option_map_or (λ (g : EndsSegment). g.name) o []) (item_mapped (parted_segment d) d.segments s.0 name segment);
      }

  keeps_25 : (i : ℕ) → breaks (parted d) 25 (place.BoxItem i) ≡ false
  keeps_25 i = at (slice_get d.boxes i) refl
    where
      own : (x : DraftBox) → slice_get d.boxes i ≡ Some x → (arm : ℕ) → arm < arms_of x.kind → is_none (end_number (named_arms (parted d)) i arm) ≡ false
      own x there arm l =
          let count = whole.arm_counts i x there in
          let w = item_within x.arms arm (omega arith) in
          let f = named_as i arm x w.0 there w.1 in
          ap is_none f.found

      at : (o : Option DraftBox) → slice_get d.boxes i ≡ o → breaks (parted d) 25 (place.BoxItem i) ≡ false
      at None e =
          let none : slice_get (parted d).boxes i ≡ None = slice_get-map parted_box d.boxes i ∙ ap (option_map parted_box) e in
          rw none refl
      at (Some x) e =
          let there = item_mapped parted_box d.boxes i x e in
          rw there (none_below (λ arm. is_none (end_number (named_arms (parted d)) i arm)) (arms_of x.kind) (own x e))

  -- the name at an arm is there again
  name_back : (b x : ℕ) (item : DraftBox) (name : List ℕ) → slice_get d.boxes b ≡ Some item → slice_get item.arms x ≡ Some name → arm_name (parted d) b x ≡ name
  name_back b x item name there arm =
      let f = named_as b x item name there arm in
      ap (λ (o : Option ℕ). option_map_or (segment_name (parted d)) o []) f.found ∙ f.segment

  names_back : (b : ℕ) (item : DraftBox) → slice_get d.boxes b ≡ Some item → (n : ℕ) → n ≤ length item.arms → arm_names (parted d) b n ≡ take n item.arms
  names_back b item there zero few = sym (take_nothing item.arms)
    where
      take_nothing : (xs : List (List ℕ)) → take 0 xs ≡ []
      take_nothing [] = refl
      take_nothing (x ∷ xs) = refl
  names_back b item there (suc n) few =
      let w = item_within item.arms n (omega arith) in
      let own : get_or item.arms n w.0 ≡ w.0 = get_or_from_slice_get item.arms n w.0 w.0 w.1 in
      let within : n < length item.arms = omega arith in
      let more : take (suc n) item.arms ≡ take n item.arms ++ w.0 ∷ [] =
      ap (λ (m : ℕ). take m item.arms) (sym (add-one n)) ∙ (take_more item.arms n w.0 within ∙ ap (λ (x : List ℕ). take n item.arms ++ x ∷ []) own) in
      ap₂ (λ (xs : List (List ℕ)) (x : List ℕ). xs ++ x ∷ []) (names_back b item there n (omega arith)) (name_back b n item w.0 there w.1) ∙ sym more

  box_back : (b : ℕ) (item : DraftBox) → slice_get d.boxes b ≡ Some item → joined_box (parted d) b (parted_box item) ≡ item
  box_back b item there =
      let count = whole.arm_counts b item there in
      let arms : arm_names (parted d) b (arms_of item.kind) ≡ item.arms =
      names_back b item there (arms_of item.kind) (omega arith) ∙ take_all (arms_of item.kind) item.arms (omega arith) in
      ap (λ (names : List (List ℕ)). let x : DraftBox = record { name = item.name; kind = item.kind; arms = names; at = item.at } in x) arms

  boxes_back : (b : ℕ) (xs : List DraftBox) → ((k : ℕ) (x : DraftBox) → slice_get xs k ≡ Some x → slice_get d.boxes (b + k) ≡ Some x)
      → joined_boxes (parted d) b (map parted_box xs) ≡ xs
  boxes_back b [] each = refl
  boxes_back b (x ∷ xs) each =
      let here : b + 0 ≡ b = omega arith in
      let own = subst (λ (i : ℕ). slice_get d.boxes i ≡ Some x) here (each 0 x refl) in
      ap₂ (λ (y : DraftBox) (ys : List DraftBox). y ∷ ys) (box_back b x own) (boxes_back (suc b) xs later)
    where
      later : (k : ℕ) (y : DraftBox) → slice_get xs k ≡ Some y → slice_get d.boxes (suc b + k) ≡ Some y
      later k y e =
          let next : b + suc k ≡ suc b + k = omega arith in
          subst (λ (i : ℕ). slice_get d.boxes i ≡ Some y) next (each (suc k) y e)

  pub parted_back : draft_of (parted d) ≡ d
  parted_back =
      let from_start : (k : ℕ) (x : DraftBox) → slice_get d.boxes k ≡ Some x → slice_get d.boxes (0 + k) ≡ Some x =
      λ k x e. let same : k ≡ 0 + k = omega arith in subst (λ (i : ℕ). slice_get d.boxes i ≡ Some x) same e in
      ap₂ (λ (s : List (List ℕ)) (b : List DraftBox). let w : Draft = record { segments = s; boxes = b; trains = d.trains } in w)
      (segments-parted d d.segments) (boxes_back 0 d.boxes from_start)

  pub parted_unbroken : IsUnbroken (parted d)
  parted_unbroken =
      let p = parted d in
      let all = 2 * length p.segments in
      let ends : (n : ℕ) → n < 25 → ((k : ℕ) → end_breaks p n k ≡ false) → IsKept p n =
      λ n l each. kept_ends p n all l (omega arith) (λ j before. each j) in
      let below_22 = kept_more p 21 22 refl (below_21 p) (ends 21 (omega arith) keeps_21) in
      let below_23 = kept_more p 22 23 refl below_22 (ends 22 (omega arith) keeps_22) in
      let below_24 = kept_more p 23 24 refl below_23 (ends 23 (omega arith) keeps_23) in
      let below_25 = kept_more p 24 25 refl below_24 (ends 24 (omega arith) keeps_24) in
      unbroken p (kept_more p 25 26 refl below_25 (kept_boxes p (length p.boxes) (omega arith) (λ j before. keeps_25 j)))

-- what is made part by part
pub parted_is : (d : Draft) (segments : List EndsSegment) (boxes : List EndsBox) (trains : List DraftTrain) → segments ≡ map (parted_segment d) d.segments
    → boxes ≡ map parted_box d.boxes → trains ≡ d.trains
    → (let x : EndsDraft = record { segments = segments; boxes = boxes; trains = trains } in x) ≡ parted d
parted_is d segments boxes trains p q r =
    ap₂ (λ (s : List EndsSegment) (b : List EndsBox). let x : EndsDraft = record { segments = s; boxes = b; trains = trains } in x) p q
    ∙ ap (λ (t : List DraftTrain). let x : EndsDraft = record { segments = (parted d).segments; boxes = (parted d).boxes; trains = t } in x) r
