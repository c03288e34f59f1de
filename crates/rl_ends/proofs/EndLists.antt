-- The texts of the ends, and the arms that they name, by their numbers.
use Rattle.std.proofs.Common.{◌≡◌, ℕ, zero, suc, ◌*◌, ◌/◌, ◌%◌, ◌<◌, cond, eqb, List, [], ◌∷◌, length, map, slice_get, Option, Some, option_map, refl, sym, ap, ap₂, ◌∙◌, subst, arith}
use Rattle.std.proofs.lemmas.List.{length-map}
use Rattle.std.proofs.lemmas.Option.{slice_get_within}
use Rattle.rl_drafts.specs.Drafts.{number_in, end_at}
use Rattle.rl_drafts.proofs.Lookups.{map_some, then_some, item_mapped, mapped_item}
use Rattle.rl_drafts.proofs.Numbers.{number_in-item}
use Rattle.rl_model.specs.declared.network.SegmentEnd.{SegmentEnd}
use Rattle.rl_ends.specs.EndNames.{EndName, end_of}
use Rattle.rl_ends.specs.EndsDrafts.{texts_of, box_names, named_arm, named_arms}
use Rattle.rl_ends.specs.declared.ends_draft.EndsSegment.{EndsSegment}
use Rattle.rl_ends.specs.declared.ends_draft.EndsBox.{EndsBox}
use Rattle.rl_ends.specs.declared.ends_draft.EndsDraft.{EndsDraft}
use Rattle.rl_ends.proofs.EndNames.{end_of-reads}

-- there are two for each segment
pub length-texts_of : (gs : List EndsSegment) → length (texts_of gs) ≡ 2 * length gs
length-texts_of [] = refl
length-texts_of (g ∷ gs) = omega (arith, length-texts_of gs)

-- the text of an end, by its segment and its place there
abbrev pub text_in : ℕ → EndsSegment → List ℕ
text_in k g = cond (eqb (k % 2) 0) g.first g.second

pub text_at : (gs : List EndsSegment) (k : ℕ) → slice_get (texts_of gs) k ≡ option_map (text_in k) (slice_get gs (k / 2))
text_at [] k = refl
text_at (g ∷ gs) zero = refl
text_at (g ∷ gs) (suc zero) = refl
text_at (g ∷ gs) (suc (suc k)) =
    let half : suc (suc k) / 2 ≡ suc (k / 2) = omega arith in
    let odd : suc (suc k) % 2 ≡ k % 2 = omega arith in
    text_at gs k
    ∙ ap₂ (λ (m i : ℕ). option_map (λ (h : EndsSegment). cond (eqb m 0) h.first h.second) (slice_get (g ∷ gs) i)) (sym odd) (sym half)

pub length-named_arms : (d : EndsDraft) → length (named_arms d) ≡ 2 * length d.segments
length-named_arms d = length-map (texts_of d.segments) (named_arm (box_names d)) ∙ length-texts_of d.segments

-- the arm that the end with this text names
pub named_arm_at : (d : EndsDraft) (k : ℕ) (text : List ℕ) → slice_get (texts_of d.segments) k ≡ Some text
    → slice_get (named_arms d) k ≡ Some (named_arm (box_names d) text)
named_arm_at d k text e = item_mapped (named_arm (box_names d)) (texts_of d.segments) k text e

-- a box and an arm of it
pub record IsArmOf (boxes : ℕ) (e : SegmentEnd) : Type 0 where
  pub box : e.at.0 < boxes
  pub arm : e.arm.0 < 4

-- an arm that is named is an arm of a box of the list
pub named_arm-bounds : (names : List (List ℕ)) (text : List ℕ) (e : SegmentEnd) → named_arm names text ≡ Some e → IsArmOf (length names) e
named_arm-bounds names text e h =
    let t = then_some (λ (n : EndName). option_map (λ (b : ℕ). end_at b n.arm) (number_in names n.name)) (end_of text) e h in
    let s = end_of-reads text t.0 t.1 in
    let m = map_some (λ (b : ℕ). end_at b t.0.arm) (number_in names t.0.name) e t.2 in
    let within = slice_get_within names m.0 t.0.name (number_in-item names t.0.name m.0 m.1) in
    let at : m.0 ≡ e.at.0 = ap (λ (x : SegmentEnd). x.at.0) m.2 in
    let arm : t.0.arm ≡ e.arm.0 = ap (λ (x : SegmentEnd). x.arm.0) m.2 in
    let few : t.0.arm < 4 = s.arm in
    record { box = omega arith; arm = omega arith }

-- item k of the arms that were found is what end k names
pub record IsNamed (d : EndsDraft) (k : ℕ) (e : SegmentEnd) : Type 0 where
  pub named : slice_get (named_arms d) k ≡ Some (Some e)
  pub of_box : IsArmOf (length d.boxes) e

pub is_named : (d : EndsDraft) (arms : List SegmentEnd) (k : ℕ) (e : SegmentEnd) → map (λ (x : SegmentEnd). Some x) arms ≡ named_arms d
    → slice_get arms k ≡ Some e → IsNamed d k e
is_named d arms k e same there =
    let at : slice_get (named_arms d) k ≡ Some (Some e) =
    subst (λ (os : List (Option SegmentEnd)). slice_get os k ≡ Some (Some e)) same (item_mapped (λ (x : SegmentEnd). Some x) arms k e there) in
    let text = mapped_item (named_arm (box_names d)) (texts_of d.segments) k (Some e) at in
    let h = named_arm-bounds (box_names d) text.0 e text.2 in
    let count = length-map d.boxes (λ (x : EndsBox). x.name) in
    record { named = at; of_box = record { box = omega (arith, h.box, count); arm = h.arm } }

-- as many arms were found as there are ends
pub length-found : (d : EndsDraft) (arms : List SegmentEnd) → map (λ (x : SegmentEnd). Some x) arms ≡ named_arms d → length arms ≡ 2 * length d.segments
length-found d arms same = sym (length-map arms (λ (x : SegmentEnd). Some x)) ∙ (ap length same ∙ length-named_arms d)
