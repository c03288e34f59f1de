-- The network of a draft that is sound and has names for names is a network.
use Rattle.std.proofs.Common.{◌≡◌, ℕ, suc, ◌+◌, ◌-◌, ◌*◌, ◌<◌, ◌≤◌, Bool, true, false, cond, eqb, List, [], ◌∷◌, map, drop, slice_get, unwrap_or, Option, Some, None, option_map, option_and_then, inl, inr, ⊎_elim, refl, sym, ap, ap₂, ◌∙◌, subst, subst₂, arith, length-drop}
use Rattle.std.proofs.lemmas.Bool.{false≢true, or_cases, or_left, or_right, cases_order, eq-eqb, ne_eqb}
use Rattle.std.proofs.lemmas.List.{length-map}
use Rattle.std.proofs.lemmas.Option.{slice_get_within, same_Some}
use Rattle.std.specs.Option.{option_map_or}
use Rattle.rl_base.specs.declared.limits.TheConstants.{MAX_SEGMENTS, MAX_BOXES, MAX_TRAINS}
use Rattle.rl_base.specs.declared.ids.SegId.{SegId}
use Rattle.rl_base.specs.declared.ids.BoxId.{BoxId}
use Rattle.rl_base.specs.declared.kind.Kind.{Kind}
use Rattle.rl_base.specs.declared.kind.Kind.TheVariants.{Buffer}
use Rattle.rl_base.specs.declared.kind.Side.{Side}
use Rattle.rl_base.specs.declared.kind.Side.TheVariants.{Left, Right}
use Rattle.rl_base.specs.declared.draft.DraftBox.{DraftBox}
use Rattle.rl_base.specs.declared.draft.DraftTrain.{DraftTrain}
use Rattle.rl_base.specs.declared.draft.Draft.{Draft}
use Rattle.rl_base.specs.Draft.{HasNames}
use Rattle.rl_base.specs.Kind.{arms_of}
use Rattle.rl_base.specs.Name.{is_name}
use Rattle.rl_model.specs.declared.network.SegmentEnd.{SegmentEnd}
use Rattle.rl_model.specs.declared.network.Segment.{Segment}
use Rattle.rl_model.specs.declared.network.SwitchBox.{SwitchBox}
use Rattle.rl_model.specs.declared.network.Train.{Train}
use Rattle.rl_model.specs.Network.{arm_at, arm_of, kind_of, joined, can_connect, segment_at, route_segment, route_box, StartsOn, IsStep, IsEndOf, IsSegment, IsBox, IsTrain, IsNetwork}
use Rattle.rl_drafts.specs.Drafts.{number_in, box_names, train_names, segment_number, box_number, every_other, end_at, ends_of, segment_of, box_of, train_of, network_of}
use Rattle.rl_drafts.specs.Refusals.{connects_names, box_named}
use Rattle.rl_drafts.specs.Search.{first_refusal}
use Rattle.rl_drafts.proofs.Lookups.{map_some, then_some, mapped_item, item_mapped, all_at}
use Rattle.rl_drafts.proofs.Numbers.{AreDistinct, number_in-item, number_in-place}
use Rattle.rl_drafts.proofs.Ends.{IsMember, AreRising, ends_from-sound, ends_from-complete, ends_from-rising, two_ends}
use Rattle.rl_drafts.proofs.RouteNames.{every_other-item, every_other-odd, length-every_other, find-number}
use Rattle.rl_drafts.proofs.Accepted.{IsArm, IsRoutePlace, IsSound, IsSound-from_accepted}
use Rattle.rl_drafts.proofs.Refusals.{first_refusal-none}

-- where the lower end is at the box, that is the arm
arm_at-low : (b i : ℕ) (g : Segment) → end_at b i ≡ g.low → arm_at b g ≡ Some i
arm_at-low b i g e =
    let at : g.low.at.0 ≡ b = sym (ap (λ (x : SegmentEnd). x.at.0) e) in
    ap₂ (λ (t : Bool) (n : ℕ). cond t (Some n) (cond (eqb g.high.at.0 b) (Some g.high.arm.0) None)) (eq-eqb g.low.at.0 b at)
    (sym (ap (λ (x : SegmentEnd). x.arm.0) e))

-- where the higher end is at the box, that is the arm
arm_at-high : (b i : ℕ) (g : Segment) → g.low.at.0 < g.high.at.0 → end_at b i ≡ g.high → arm_at b g ≡ Some i
arm_at-high b i g l e =
    let at : g.high.at.0 ≡ b = sym (ap (λ (x : SegmentEnd). x.at.0) e) in
    ap (λ (t : Bool). cond t (Some g.low.arm.0) (cond (eqb g.high.at.0 b) (Some g.high.arm.0) None)) (ne_eqb g.low.at.0 b (λ x. omega arith))
    ∙ ap₂ (λ (t : Bool) (n : ℕ). cond t (Some n) None) (eq-eqb g.high.at.0 b at) (sym (ap (λ (x : SegmentEnd). x.arm.0) e))

-- more arms are joined where more are there
joined_more : (kind : Kind) (side : Side) (o u o2 u2 : Option ℕ) → ((i : ℕ) → o ≡ Some i → o2 ≡ Some i) → ((i : ℕ) → u ≡ Some i → u2 ≡ Some i)
    → joined kind side o u ≡ true → joined kind side o2 u2 ≡ true
joined_more kind side (Some x) (Some y) o2 u2 f g h =
    subst₂ (λ (v w : Option ℕ). joined kind side v w ≡ true) (sym (f x refl)) (sym (g y refl)) h
joined_more kind side (Some x) None o2 u2 f g h = absurd (false≢true h)
joined_more kind side None u o2 u2 f g h = absurd (false≢true h)

-- things made of things with distinct names have one place for each name
same_places : {A B : Type 0} (f : A → B) (own : A → List ℕ) (name : B → List ℕ) → ((x : A) → name (f x) ≡ own x) → (xs : List A) (names : List (List ℕ))
    → ((k : ℕ) (x : A) → slice_get xs k ≡ Some x → slice_get names k ≡ Some (own x)) → AreDistinct names → (k k2 : ℕ) (y y2 : B)
    → slice_get (map f xs) k ≡ Some y → slice_get (map f xs) k2 ≡ Some y2 → name y ≡ name y2 → k ≡ k2
same_places f own name named xs names listed distinct k k2 y y2 e e2 h =
    let x = mapped_item f xs k y e in
    let x2 = mapped_item f xs k2 y2 e2 in
    let same : own x.0 ≡ own x2.0 = sym (named x.0) ∙ ap name x.2 ∙ h ∙ sym (ap name x2.2) ∙ named x2.0 in
    distinct.same k k2 (own x2.0) (listed k x.0 x.1 ∙ ap (λ (n : List ℕ). Some n) same) (listed k2 x2.0 x2.1)

module _ (d : Draft) (sound : IsSound d) where
  -- the number of a name that has one
  segment_number-is : (name : List ℕ) (s : ℕ) → number_in d.segments name ≡ Some s → (segment_number d name).0 ≡ s
  segment_number-is name s e = ap (λ (o : Option ℕ). unwrap_or o 0) e

  -- and likewise of a box
  box_number-is : (name : List ℕ) (b : ℕ) → number_in (box_names d) name ≡ Some b → (box_number d name).0 ≡ b
  box_number-is name b e = ap (λ (o : Option ℕ). unwrap_or o 0) e

  -- a name that has a number has the number that the network writes
  segment_named : (name : List ℕ) (n s : ℕ) (id : SegId) → number_in d.segments name ≡ Some n → segment_number d name ≡ id → id.0 ≡ s
      → number_in d.segments name ≡ Some s
  segment_named name n s id e p q =
      let same : n ≡ s = sym (segment_number-is name n e) ∙ ap (λ (w : SegId). w.0) p ∙ q in
      subst (λ (m : ℕ). number_in d.segments name ≡ Some m) same e

  -- and likewise of a box
  box_named_by : (name : List ℕ) (n b : ℕ) (id : BoxId) → number_in (box_names d) name ≡ Some n → box_number d name ≡ id → id.0 ≡ b
      → number_in (box_names d) name ≡ Some b
  box_named_by name n b id e p q =
      let same : n ≡ b = sym (box_number-is name n e) ∙ ap (λ (w : BoxId). w.0) p ∙ q in
      subst (λ (m : ℕ). number_in (box_names d) name ≡ Some m) same e

  -- an end that is listed is an arm with the name
  arm_of_member : (name : List ℕ) (e : SegmentEnd) → IsMember e (ends_of d name) → IsArm d e.at.0 e.arm.0 name
  arm_of_member name e m =
      let h = ends_from-sound 0 d.boxes name e m in
      let k : h.place ≡ e.at.0 = omega (arith, h.at) in
      record { item = h.item; box = subst (λ (n : ℕ). slice_get d.boxes n ≡ Some h.item) k h.box; arm = h.arm }

  -- an arm with the name is listed
  member_of_arm : (name : List ℕ) (b i : ℕ) → IsArm d b i name → IsMember (end_at b i) (ends_of d name)
  member_of_arm name b i h = ends_from-complete 0 d.boxes name (end_at b i) b h.item (omega arith) h.box h.arm

  -- a segment has two ends
  ends_are : (s : ℕ) (name : List ℕ) → slice_get d.segments s ≡ Some name → ends_of d name ≡ (segment_of d name).low ∷ (segment_of d name).high ∷ []
  ends_are s name e = two_ends (ends_of d name) (end_at 0 0) (sound.ends s name e)

  -- the box of the first has the lower number
  ends_rise : (s : ℕ) (name : List ℕ) → slice_get d.segments s ≡ Some name → (segment_of d name).low.at.0 < (segment_of d name).high.at.0
  ends_rise s name e =
      let rising = subst AreRising (ends_are s name e) (ends_from-rising 0 d.boxes name sound.arms) in
      rising.0 (segment_of d name).high (inl refl)

  -- the first is an arm with the name
  low_arm : (s : ℕ) (name : List ℕ) → slice_get d.segments s ≡ Some name → IsArm d (segment_of d name).low.at.0 (segment_of d name).low.arm.0 name
  low_arm s name e =
      arm_of_member name (segment_of d name).low (subst (IsMember (segment_of d name).low) (sym (ends_are s name e)) (inl refl))

  -- and so is the second
  high_arm : (s : ℕ) (name : List ℕ) → slice_get d.segments s ≡ Some name → IsArm d (segment_of d name).high.at.0 (segment_of d name).high.arm.0 name
  high_arm s name e =
      arm_of_member name (segment_of d name).high (subst (IsMember (segment_of d name).high) (sym (ends_are s name e)) (inr (inl refl)))

  -- an arm with the name is the segment's arm at the box
  arm_of-arm : (s : ℕ) (name : List ℕ) (b i : ℕ) → slice_get d.segments s ≡ Some name → IsArm d b i name → arm_of (network_of d) s b ≡ Some i
  arm_of-arm s name b i e h =
      let m = subst (IsMember (end_at b i)) (ends_are s name e) (member_of_arm name b i h) in
      ap (option_and_then (arm_at b)) (item_mapped (segment_of d) d.segments s name e)
      ∙ ⊎_elim (λ low. arm_at-low b i (segment_of d name) low)
      (λ rest. ⊎_elim (λ high. arm_at-high b i (segment_of d name) (ends_rise s name e) high) (λ x. absurd x) rest) m

  -- the kind of a box
  kind_of-box : (b : ℕ) (x : DraftBox) → slice_get d.boxes b ≡ Some x → kind_of (network_of d) b ≡ x.kind
  kind_of-box b x e = ap (λ (o : Option SwitchBox). option_map_or (λ (w : SwitchBox). w.kind) o Buffer) (item_mapped (box_of d) d.boxes b x e)

  -- the segment at an arm is the number of the name there
  segment_at-box : (b i : ℕ) (x : DraftBox) → slice_get d.boxes b ≡ Some x
      → segment_at (network_of d) b i ≡ option_map (λ (s : SegId). s.0) (slice_get (map (segment_number d) x.arms) i)
  segment_at-box b i x e =
      ap (option_and_then (λ (w : SwitchBox). option_map (λ (s : SegId). s.0) (slice_get w.arms i))) (item_mapped (box_of d) d.boxes b x e)

  -- which is the segment that has the name
  segment_at-arm : (s : ℕ) (name : List ℕ) (b i : ℕ) → number_in d.segments name ≡ Some s → IsArm d b i name → segment_at (network_of d) b i ≡ Some s
  segment_at-arm s name b i e h =
      segment_at-box b i h.item h.box ∙ ap (option_map (λ (s : SegId). s.0)) (item_mapped (segment_number d) h.item.arms i name h.arm)
      ∙ ap (λ (n : ℕ). Some n) (segment_number-is name s e)

  -- what stands at an arm is the segment whose arm it is
  arm_of-segment_at : (b i s : ℕ) (x : DraftBox) → slice_get d.boxes b ≡ Some x → segment_at (network_of d) b i ≡ Some s → arm_of (network_of d) s b ≡ Some i
  arm_of-segment_at b i s x e h =
      let at = map_some (λ (s : SegId). s.0) (slice_get (map (segment_number d) x.arms) i) s (sym (segment_at-box b i x e) ∙ h) in
      let name = mapped_item (segment_number d) x.arms i at.0 at.1 in
      let arm : IsArm d b i name.0 = record { item = x; box = e; arm = name.1 } in
      let number = sound.arm_names b i name.0 arm in
      arm_of-arm s name.0 b i (number_in-item d.segments name.0 s (segment_named name.0 number.0 s at.0 number.1 name.2 at.2)) arm

  -- an arm with the name of a segment is an end of it
  IsEndOf-arm : (s : ℕ) (name : List ℕ) (e : SegmentEnd) → slice_get d.segments s ≡ Some name → IsArm d e.at.0 e.arm.0 name → IsEndOf (network_of d) s e
  IsEndOf-arm s name e p h =
      record {
        box = subst (λ (n : ℕ). e.at.0 < n) (sym (length-map d.boxes (box_of d))) (slice_get_within d.boxes e.at.0 h.item h.box);
        arm =
            subst (λ (n : ℕ). e.arm.0 < n) (sound.arm_counts e.at.0 h.item h.box ∙ ap arms_of (sym (kind_of-box e.at.0 h.item h.box)))
            (slice_get_within h.item.arms e.arm.0 name h.arm);
        segment = segment_at-arm s name e.at.0 e.arm.0 (number_in-place d.segments sound.segments name s p) h;
      }

  -- each segment is right
  segments_right : HasNames d → (s : ℕ) (g : Segment) → slice_get (network_of d).segments s ≡ Some g → IsSegment (network_of d) s g
  segments_right names s g e =
      let h = mapped_item (segment_of d) d.segments s g e in
      subst (IsSegment (network_of d) s) h.2
      (record {
        low = IsEndOf-arm s h.0 (segment_of d h.0).low h.1 (low_arm s h.0 h.1);
        high = IsEndOf-arm s h.0 (segment_of d h.0).high h.1 (high_arm s h.0 h.1);
        order = ends_rise s h.0 h.1;
        name = all_at is_name d.segments s h.0 names.segments h.1;
      })

  -- each box is right
  boxes_right : HasNames d → (b : ℕ) (x : SwitchBox) → slice_get (network_of d).boxes b ≡ Some x → IsBox (network_of d) b x
  boxes_right names b x e =
      let h = mapped_item (box_of d) d.boxes b x e in
      subst (IsBox (network_of d) b) h.2
      (record {
        arms = length-map h.0.arms (segment_number d) ∙ sound.arm_counts b h.0 h.1;
        segments = λ i s p. arm_of-segment_at b i s h.0 h.1 p;
        side = λ p. sound.sides b h.0 h.1 p;
        name = all_at (λ (w : DraftBox). is_name w.name) d.boxes b h.0 names.boxes h.1;
      })

  -- the segment at a place of the route is the one whose name stands there
  route_segment-name : (t k s : ℕ) (x : DraftTrain) → slice_get d.trains t ≡ Some x → route_segment (network_of d) t k ≡ Some s
      → (name : List ℕ) × (slice_get x.route (2 * k) ≡ Some name) × (number_in d.segments name ≡ Some s)
  route_segment-name t k s x e h =
      let there = ap (option_and_then (λ (r : Train). option_map (λ (s : SegId). s.0) (slice_get r.segments k))) (item_mapped (train_of d) d.trains t x e) in
      let at = map_some (λ (s : SegId). s.0) (slice_get (map (segment_number d) (every_other x.route)) k) s (sym there ∙ h) in
      let name = mapped_item (segment_number d) (every_other x.route) k at.0 at.1 in
      let place = sym (every_other-item x.route k) ∙ name.1 in
      let number = sound.route_segments t k name.0 (record { item = x; train = e; place = place }) in
      (name.0, place, segment_named name.0 number.0 s at.0 number.1 name.2 at.2)

  -- the box at a place of the route is the one whose name stands there
  route_box-name : (t k b : ℕ) (x : DraftTrain) → slice_get d.trains t ≡ Some x → route_box (network_of d) t k ≡ Some b
      → (name : List ℕ) × (slice_get x.route (suc (2 * k)) ≡ Some name) × (number_in (box_names d) name ≡ Some b)
  route_box-name t k b x e h =
      let there = ap (option_and_then (λ (r : Train). option_map (λ (b : BoxId). b.0) (slice_get r.boxes k))) (item_mapped (train_of d) d.trains t x e) in
      let at = map_some (λ (b : BoxId). b.0) (slice_get (map (box_number d) (every_other (drop 1 x.route))) k) b (sym there ∙ h) in
      let name = mapped_item (box_number d) (every_other (drop 1 x.route)) k at.0 at.1 in
      let place = sym (every_other-odd x.route k) ∙ name.1 in
      let number = sound.route_boxes t k name.0 (record { item = x; train = e; place = place }) in
      (name.0, place, box_named_by name.0 number.0 b at.0 number.1 name.2 at.2)

  -- the box of a number
  box_of_name : (name : List ℕ) (b : ℕ) → number_in (box_names d) name ≡ Some b → (x : DraftBox) × (slice_get d.boxes b ≡ Some x)
  box_of_name name b e =
      let h = mapped_item (λ (x : DraftBox). x.name) d.boxes b name (number_in-item (box_names d) name b e) in
      (h.0, h.1)

  -- names of a box that are joined are numbers that are joined
  joined_numbers : (side : Side) (b s s2 : ℕ) (x : DraftBox) (name name2 : List ℕ) → slice_get d.boxes b ≡ Some x → number_in d.segments name ≡ Some s
      → number_in d.segments name2 ≡ Some s2 → joined x.kind side (number_in x.arms name) (number_in x.arms name2) ≡ true
      → joined (kind_of (network_of d) b) side (arm_of (network_of d) s b) (arm_of (network_of d) s2 b) ≡ true
  joined_numbers side b s s2 x name name2 e p q h =
      subst (λ (k : Kind). joined k side (arm_of (network_of d) s b) (arm_of (network_of d) s2 b) ≡ true) (sym (kind_of-box b x e))
      (joined_more x.kind side _ _ _ _ (one s name p) (one s2 name2 q) h)
    where
      one : (s : ℕ) (name : List ℕ) → number_in d.segments name ≡ Some s → (i : ℕ) → number_in x.arms name ≡ Some i → arm_of (network_of d) s b ≡ Some i
      one s name p i a =
          arm_of-arm s name b i (number_in-item d.segments name s p) (record { item = x; box = e; arm = number_in-item x.arms name i a })

  -- a step that fits by names fits by numbers
  step_fits : (t k s b s2 : ℕ) (x : DraftTrain) → slice_get d.trains t ≡ Some x → IsStep (network_of d) t k s b s2 → can_connect (network_of d) b s s2 ≡ true
  step_fits t k s b s2 x e step =
      let from = route_segment-name t k s x e step.from in
      let through = route_box-name t k b x e step.through in
      let to = route_segment-name t (k + 1) s2 x e step.to in
      let item = box_of_name through.0 b through.2 in
      let fits = sound.fits t k x e (slice_get_within x.route (suc (2 * k)) through.0 through.1) in
      let before : suc (2 * k) - 1 ≡ 2 * k = omega arith in
      let after : suc (2 * k) + 1 ≡ 2 * (k + 1) = omega arith in
      let named = ap (option_and_then (box_named d)) through.1 ∙ find-number d.boxes through.0 b through.2 ∙ item.1 in
      let on_box = subst (λ (o : Option DraftBox). option_map_or
      (λ w. connects_names w (slice_get x.route (suc (2 * k) - 1)) (slice_get x.route (suc (2 * k) + 1))) o false ≡ true) named fits in
      let by_names =
      subst₂ (λ (v w : Option (List ℕ)). connects_names item.0 v w ≡ true) (ap (slice_get x.route) before ∙ from.1)
      (ap (slice_get x.route) after ∙ to.1) on_box in
      ⊎_elim (λ h. or_left _ _ (joined_numbers Left b s s2 item.0 from.0 to.0 item.1 from.2 to.2 h))
      (λ h. or_right _ _ (joined_numbers Right b s s2 item.0 from.0 to.0 item.1 from.2 to.2 h))
      (or_cases _ _ by_names)

  -- each train is right
  trains_right : HasNames d → (t : ℕ) (r : Train) → slice_get (network_of d).trains t ≡ Some r → IsTrain (network_of d) t r
  trains_right names t r e =
      let h = mapped_item (train_of d) d.trains t r e in
      let x = h.0 in
      let evens = length-every_other x.route in
      let odds = length-every_other (drop 1 x.route) in
      let odd = sound.odd_routes t x h.1 in
      let short = sound.short_routes t x h.1 in
      let len = length-drop 1 x.route in
      let segments_len = length-map (every_other x.route) (segment_number d) in
      let boxes_len = length-map (every_other (drop 1 x.route)) (box_number d) in
      subst (IsTrain (network_of d) t) h.2
      (record {
        shape = omega arith;
        short = omega arith;
        segments = λ k s p. let n = route_segment-name t k s x h.1 p in
            subst (λ (m : ℕ). s < m) (sym (length-map d.segments (segment_of d))) (slice_get_within d.segments s n.0 (number_in-item d.segments n.0 s n.2));
        boxes = λ k b p. let n = route_box-name t k b x h.1 p in let i = box_of_name n.0 b n.2 in
            subst (λ (m : ℕ). b < m) (sym (length-map d.boxes (box_of d))) (slice_get_within d.boxes b i.0 i.1);
        fits = λ k s b s2 step. step_fits t k s b s2 x h.1 step;
        name = all_at (λ (w : DraftTrain). is_name w.name) d.trains t x names.trains h.1;
      })

  -- a train that starts somewhere has a first name
  first_name : (t s : ℕ) → StartsOn (network_of d) t s → (name : List ℕ) × (IsRoutePlace d t 0 name) × (slice_get d.segments s ≡ Some name)
  first_name t s h =
      let r = then_some (λ (r : Train). option_map (λ (s : SegId). s.0) (slice_get r.segments 0)) (slice_get (network_of d).trains t) s h in
      let x = mapped_item (train_of d) d.trains t r.0 r.1 in
      let n = route_segment-name t 0 s x.0 x.1 h in
      (n.0, record { item = x.0; train = x.1; place = n.1 }, number_in-item d.segments n.0 s n.2)

  -- no two trains start on one segment
  starts_differ : (t u s : ℕ) → StartsOn (network_of d) t s → StartsOn (network_of d) u s → t ≡ u
  starts_differ t u s a b =
      let p = first_name t s a in
      let q = first_name u s b in
      let same = same_Some p.0 q.0 (sym p.2 ∙ q.2) in
      ⊎_elim (λ e. e)
      (λ h. ⊎_elim (λ l. absurd (sound.starts t u q.0 l (subst (IsRoutePlace d t 0) same p.1) q.1))
      (λ l. absurd (sound.starts u t q.0 l q.1 (subst (IsRoutePlace d t 0) same p.1))) h)
      (cases_order t u)

  -- so the whole is a network
  IsNetwork-sound : HasNames d → IsNetwork (network_of d)
  IsNetwork-sound names =
      record {
        few_segments = subst (λ (n : ℕ). n ≤ MAX_SEGMENTS) (sym (length-map d.segments (segment_of d))) sound.few_segments;
        few_boxes = subst (λ (n : ℕ). n ≤ MAX_BOXES) (sym (length-map d.boxes (box_of d))) sound.few_boxes;
        few_trains = subst (λ (n : ℕ). n ≤ MAX_TRAINS) (sym (length-map d.trains (train_of d))) sound.few_trains;
        segments = segments_right names;
        boxes = boxes_right names;
        trains = trains_right names;
        segment_names =
            same_places (segment_of d) (λ (n : List ℕ). n) (λ (g : Segment). g.name) (λ n. refl) d.segments d.segments (λ k n e. e) sound.segments;
        box_names =
            same_places (box_of d) (λ (x : DraftBox). x.name) (λ (x : SwitchBox). x.name) (λ x. refl) d.boxes (box_names d)
            (item_mapped (λ (x : DraftBox). x.name) d.boxes) sound.boxes;
        train_names =
            same_places (train_of d) (λ (t : DraftTrain). t.name) (λ (r : Train). r.name) (λ t. refl) d.trains (train_names d)
            (item_mapped (λ (t : DraftTrain). t.name) d.trains) sound.trains;
        starts = starts_differ;
      }

-- an accepted draft gives a network
pub IsNetwork-accepted : (d : Draft) → HasNames d → first_refusal d ≡ None → IsNetwork (network_of d)
IsNetwork-accepted d names e = IsNetwork-sound d (IsSound-from_accepted d (first_refusal-none d e)) names
