-- The ends of a draft that is whole: what the text of each names, and which end names an arm.
use Rattle.std.proofs.Common.{◌≡◌, ℕ, zero, suc, ◌/◌, ◌%◌, ◌<◌, ◌≤◌, Bool, true, false, cond, eqb, List, [], ◌∷◌, map, slice_get, Option, Some, option_map, option_and_then, ◌⊎◌, inl, inr, refl, sym, ap, ap₂, ◌∙◌, subst, arith}
use Rattle.std.proofs.lemmas.Bool.{both_ways, and_parts, and_from, eqb-true, eq-eqb, false_from_ne_true}
use Rattle.std.proofs.lemmas.Option.{none-some, same_Some, slice_get_within}
use Rattle.rl_base.specs.Kind.{arms_of}
use Rattle.rl_base.specs.Name.{is_name}
use Rattle.rl_base.specs.declared.kind.Kind.{Kind}
use Rattle.rl_base.specs.declared.kind.Kind.TheVariants.{Buffer, Joint, Point, Crossing}
use Rattle.rl_base.specs.declared.draft.Draft.{Draft}
use Rattle.rl_base.specs.declared.draft.DraftBox.{DraftBox}
use Rattle.rl_model.specs.declared.network.SegmentEnd.{SegmentEnd}
use Rattle.rl_drafts.specs.Drafts.{box_names, number_in, end_at, ends_of, segment_of}
use Rattle.rl_drafts.proofs.Ends.{IsMember, ends_from-sound, ends_from-complete, two_ends}
use Rattle.rl_drafts.proofs.Lookups.{all_at, item_mapped, mapped_item, map_some}
use Rattle.rl_drafts.proofs.Numbers.{AreDistinct, AreDistinct-from_twice, number_in-place}
use Rattle.rl_ends.specs.EndNames.{EndName, end_of}
use Rattle.rl_ends.specs.EndsDrafts.{texts_of, box_names as ends_box_names, named_arm, named_arms, is_arm, end_number}
use Rattle.rl_ends.specs.Parted.{HasTwoEnds, IsWhole, text_of_end, parted_segment, parted_box, parted}
use Rattle.rl_ends.specs.declared.ends_draft.EndsBox.{EndsBox}
use Rattle.rl_ends.proofs.EndNames.{end_of-text}
use Rattle.rl_ends.proofs.EndLists.{text_in, text_at}

-- the arm is there, and has the name
pub record IsEndOf (d : Draft) (name : List ℕ) (e : SegmentEnd) : Type 0 where
  pub item : DraftBox
  pub box : slice_get d.boxes e.at.0 ≡ Some item
  pub arm : slice_get item.arms e.arm.0 ≡ Some name

-- a listed end is such an arm
pub end_listed : (d : Draft) (name : List ℕ) (e : SegmentEnd) → IsMember e (ends_of d name) → IsEndOf d name e
end_listed d name e m =
    let k = ends_from-sound 0 d.boxes name e m in
    let at : k.place ≡ e.at.0 = omega (arith, k.at) in
    record { item = k.item; box = subst (λ (b : ℕ). slice_get d.boxes b ≡ Some k.item) at k.box; arm = k.arm }

-- the two ends of a segment
abbrev pub low_end : Draft → List ℕ → SegmentEnd
low_end d name = (segment_of d name).low

abbrev pub high_end : Draft → List ℕ → SegmentEnd
high_end d name = (segment_of d name).high

pub ends_are : (d : Draft) (name : List ℕ) → HasTwoEnds d name → ends_of d name ≡ low_end d name ∷ high_end d name ∷ []
ends_are d name h = two_ends (ends_of d name) (end_at 0 0) h.two

pub low_there : (d : Draft) (name : List ℕ) → HasTwoEnds d name → IsEndOf d name (low_end d name)
low_there d name h =
    end_listed d name (low_end d name) (subst (IsMember (low_end d name)) (sym (ends_are d name h)) (inl refl))

pub high_there : (d : Draft) (name : List ℕ) → HasTwoEnds d name → IsEndOf d name (high_end d name)
high_there d name h =
    end_listed d name (high_end d name) (subst (IsMember (high_end d name)) (sym (ends_are d name h)) (inr (inl refl)))

-- an arm with the name is one of the two
pub one_of_two : (d : Draft) (name : List ℕ) (e : SegmentEnd) → HasTwoEnds d name → IsEndOf d name e → (e ≡ low_end d name) ⊎ (e ≡ high_end d name)
one_of_two d name e h k =
    let m = ends_from-complete 0 d.boxes name e e.at.0 k.item (omega arith) k.box k.arm in
    pick (subst (IsMember e) (ends_are d name h) m)
  where
    pick : IsMember e (low_end d name ∷ high_end d name ∷ []) → (e ≡ low_end d name) ⊎ (e ≡ high_end d name)
    pick (inl a) = inl a
    pick (inr (inl b)) = inr b
    pick (inr (inr c)) = absurd c

-- a box has at most four arms
pub arms_few : (kind : Kind) → arms_of kind ≤ 4
arms_few Buffer = omega arith
arms_few Joint = omega arith
arms_few Point = omega arith
arms_few Crossing = omega arith

-- one name stands at an arm
pub one_name : (d : Draft) (a b : List ℕ) (e : SegmentEnd) → IsEndOf d a e → IsEndOf d b e → a ≡ b
one_name d a b e p q =
    let same : p.item ≡ q.item = same_Some p.item q.item (sym p.box ∙ q.box) in
    same_Some a b (sym p.arm ∙ (ap (λ (x : DraftBox). slice_get x.arms e.arm.0) same ∙ q.arm))

-- the names of the boxes stay
pub box_names-parted : (d : Draft) → ends_box_names (parted d) ≡ box_names d
box_names-parted d = on d.boxes
  where
    on : (xs : List DraftBox) → map (λ (x : EndsBox). x.name) (map parted_box xs) ≡ map (λ (x : DraftBox). x.name) xs
    on [] = refl
    on (x ∷ xs) = ap (λ (ns : List (List ℕ)). x.name ∷ ns) (on xs)

module _ (d : Draft) (whole : IsWhole d) where
  pub distinct_boxes : AreDistinct (box_names d)
  distinct_boxes = AreDistinct-from_twice (box_names d) whole.boxes_differ

  pub distinct_segments : AreDistinct d.segments
  distinct_segments = AreDistinct-from_twice d.segments whole.segments_differ

  pub arm_small : (name : List ℕ) (e : SegmentEnd) → IsEndOf d name e → e.arm.0 < 4
  arm_small name e k =
      let within = slice_get_within k.item.arms e.arm.0 name k.arm in
      let count = whole.arm_counts e.at.0 k.item k.box in
      let few = arms_few k.item.kind in
      omega arith

  pub box_is_name : (name : List ℕ) (e : SegmentEnd) → (k : IsEndOf d name e) → is_name k.item.name ≡ true
  box_is_name name e k = all_at (λ (b : DraftBox). is_name b.name) d.boxes e.at.0 k.item whole.names.boxes k.box

  -- the text of an arm says the box and the arm
  pub text_says : (name : List ℕ) (e : SegmentEnd) → (k : IsEndOf d name e)
      → end_of (text_of_end d e) ≡ Some (record { name = k.item.name; arm = e.arm.0 })
  text_says name e k =
      let there = k.box in
      rw there (end_of-text k.item.name e.arm.0 (box_is_name name e k) (arm_small name e k))

  -- and names it
  pub text_names : (name : List ℕ) (e : SegmentEnd) → (k : IsEndOf d name e) → named_arm (ends_box_names (parted d)) (text_of_end d e) ≡ Some e
  text_names name e k =
      let number : number_in (box_names d) k.item.name ≡ Some e.at.0 =
      number_in-place (box_names d) distinct_boxes k.item.name e.at.0 (item_mapped (λ (x : DraftBox). x.name) d.boxes e.at.0 k.item k.box) in
      ap (λ (ns : List (List ℕ)). named_arm ns (text_of_end d e)) (box_names-parted d)
      ∙ (ap (option_and_then (λ (n : EndName). option_map (λ (b : ℕ). end_at b n.arm) (number_in (box_names d) n.name))) (text_says name e k)
      ∙ ap (option_map (λ (b : ℕ). end_at b e.arm.0)) number)

  -- end k: the segment that it is an end of, and the arm
  pub record IsPartedEnd (k : ℕ) (said : List ℕ) : Type 0 where
    pub name : List ℕ
    pub segment : slice_get d.segments (k / 2) ≡ Some name
    pub end : SegmentEnd
    pub which : end ≡ cond (eqb (k % 2) 0) (low_end d name) (high_end d name)
    pub text : said ≡ text_of_end d end
    pub there : IsEndOf d name end

  pub parted_end : (k : ℕ) (text : List ℕ) → slice_get (texts_of (parted d).segments) k ≡ Some text → IsPartedEnd k text
  parted_end k text e =
      let m = map_some (text_in k) (slice_get (parted d).segments (k / 2)) text (sym (text_at (parted d).segments k) ∙ e) in
      let g = mapped_item (parted_segment d) d.segments (k / 2) m.0 m.1 in
      let h = whole.ends (k / 2) g.0 g.1 in
      at g.0 g.1 h (eqb (k % 2) 0) refl (sym m.2 ∙ ap (text_in k) (sym g.2))
    where
      at : (name : List ℕ) → slice_get d.segments (k / 2) ≡ Some name → HasTwoEnds d name → (t : Bool) → eqb (k % 2) 0 ≡ t
          → text ≡ text_in k (parted_segment d name) → IsPartedEnd k text
      at name there h true t same =
          record {
            name = name;
            segment = there;
            end = low_end d name;
            which = sym (ap (λ (b : Bool). cond b (low_end d name) (high_end d name)) t);
            text = same ∙ ap (λ (b : Bool). cond b (text_of_end d (low_end d name)) (text_of_end d (high_end d name))) t;
            there = low_there d name h;
          }
      at name there h false t same =
          record {
            name = name;
            segment = there;
            end = high_end d name;
            which = sym (ap (λ (b : Bool). cond b (low_end d name) (high_end d name)) t);
            text = same ∙ ap (λ (b : Bool). cond b (text_of_end d (low_end d name)) (text_of_end d (high_end d name))) t;
            there = high_there d name h;
          }

  -- the arms of the ends of these segments
  abbrev arms_list : List (List ℕ) → List (Option SegmentEnd)
  arms_list [] = []
  arms_list (name ∷ names) = Some (low_end d name) ∷ Some (high_end d name) ∷ arms_list names

  arms_listed : (names : List (List ℕ)) → ((s : ℕ) (name : List ℕ) → slice_get names s ≡ Some name → HasTwoEnds d name)
      → map (named_arm (ends_box_names (parted d))) (texts_of (map (parted_segment d) names)) ≡ arms_list names
  arms_listed [] each = refl
  arms_listed (name ∷ names) each =
      let h = each 0 name refl in
      let low = text_names name (low_end d name) (low_there d name h) in
      let high = text_names name (high_end d name) (high_there d name h) in
      let rest = arms_listed names (λ s n e. each (suc s) n e) in
      ap₂ (λ (x : Option SegmentEnd) (xs : List (Option SegmentEnd)). x ∷ xs) low
      (ap₂ (λ (x : Option SegmentEnd) (xs : List (Option SegmentEnd)). x ∷ xs) high rest)

  pub named_arms-parted : named_arms (parted d) ≡ arms_list d.segments
  named_arms-parted = arms_listed d.segments whole.ends

  is_own : (e : SegmentEnd) → is_arm e.at.0 e.arm.0 (Some e) ≡ true
  is_own e = and_from _ _ (eq-eqb e.at.0 e.at.0 refl) (eq-eqb e.arm.0 e.arm.0 refl)

  pub same_arm : (e u : SegmentEnd) → is_arm e.at.0 e.arm.0 (Some u) ≡ true → u ≡ e
  same_arm e u t =
      let p = and_parts (eqb u.at.0 e.at.0) (eqb u.arm.0 e.arm.0) t in
      ap₂ end_at (eqb-true u.at.0 e.at.0 p.0) (eqb-true u.arm.0 e.arm.0 p.1)

  -- the end that names an arm is one of the segment whose name stands there
  record IsFound (os : List (Option SegmentEnd)) (e : SegmentEnd) (s : ℕ) : Type 0 where
    number : ℕ
    found : end_number os e.at.0 e.arm.0 ≡ Some number
    half : number / 2 ≡ s

  not_other : (name other : List ℕ) (e u : SegmentEnd) → (name ≡ other → ⊥) → IsEndOf d name e → IsEndOf d other u → is_arm e.at.0 e.arm.0 (Some u) ≡ false
  not_other name other e u ne k v =
      false_from_ne_true (is_arm e.at.0 e.arm.0 (Some u)) (λ t. ne (one_name d name other e k (subst (IsEndOf d other) (same_arm e u t) v)))

  find_end : (names : List (List ℕ)) → ((s : ℕ) (name : List ℕ) → slice_get names s ≡ Some name → HasTwoEnds d name) → AreDistinct names
      → (name : List ℕ) (e : SegmentEnd) (s : ℕ) → slice_get names s ≡ Some name → IsEndOf d name e → IsFound (arms_list names) e s
  find_end [] each apart name e s there k = absurd (none-some name there)
  find_end (n ∷ ns) each apart name e zero there k =
      let same : n ≡ name = same_Some n name there in
      let own = subst (λ (x : List ℕ). IsEndOf d x e) (sym same) k in
      at (is_arm e.at.0 e.arm.0 (Some (low_end d n))) refl (one_of_two d n e (each 0 n refl) own)
    where
      at : (t : Bool) → is_arm e.at.0 e.arm.0 (Some (low_end d n)) ≡ t → (e ≡ low_end d n) ⊎ (e ≡ high_end d n) → IsFound (arms_list (n ∷ ns)) e 0
      at true t h = record { number = 0; found = rw t refl; half = refl }
      at false t (inl h) =
          absurd (both_ways (is_arm e.at.0 e.arm.0 (Some (low_end d n))) t (subst (λ (u : SegmentEnd). is_arm e.at.0 e.arm.0 (Some u) ≡ true) h (is_own e)))
      at false t (inr h) =
          let high : is_arm e.at.0 e.arm.0 (Some (high_end d n)) ≡ true =
          subst (λ (u : SegmentEnd). is_arm e.at.0 e.arm.0 (Some u) ≡ true) h (is_own e) in
          record { number = 1; found = rw (t, high) refl; half = refl }
  find_end (n ∷ ns) each apart name e (suc s) there k =
      let h = each 0 n refl in
      let differ : name ≡ n → ⊥ = λ (q : name ≡ n). let z : 0 ≡ suc s = apart.same 0 (suc s) name (ap Some (sym q)) there in absurd (omega arith) in
      let low = not_other name n e (low_end d n) differ k (low_there d n h) in
      let high = not_other name n e (high_end d n) differ k (high_there d n h) in
      let rest = find_end ns (λ i m q. each (suc i) m q) (rest_apart n ns apart) name e s there k in
      let found = rest.found in
      record {
        number = suc (suc rest.number);
        found = rw (low, high, found) refl;
        half = let q : suc (suc rest.number) / 2 ≡ suc (rest.number / 2) = omega arith in q ∙ ap suc rest.half;
      }
    where
      rest_apart : (n : List ℕ) (ns : List (List ℕ)) → AreDistinct (n ∷ ns) → AreDistinct ns
      rest_apart n ns h = record { same = λ i j m a b. let q : suc i ≡ suc j = h.same (suc i) (suc j) m a b in omega arith }

  pub arm_found : (name : List ℕ) (e : SegmentEnd) (s : ℕ) → slice_get d.segments s ≡ Some name → IsEndOf d name e
      → (k : ℕ) × (end_number (named_arms (parted d)) e.at.0 e.arm.0 ≡ Some k) × (k / 2 ≡ s)
  arm_found name e s there k =
      let f = find_end d.segments whole.ends distinct_segments name e s there k in
      (f.number, ap (λ (os : List (Option SegmentEnd)). end_number os e.at.0 e.arm.0) named_arms-parted ∙ f.found, f.half)
