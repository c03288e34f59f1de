-- What the code finds at an end: whether it breaks a rule.
use Rattle.std.proofs.Common.{◌≡◌, ℕ, ◌+◌, ◌*◌, ◌<◌, Bool, true, false, not, ltb, ◌&&◌, List, [], ◌∷◌, ◌++◌, length, map, take, slice_get, Option, Some, None, is_some, is_none, refl, sym, ap, ap₂, ◌∙◌, arith, add-one}
use Rattle.std.proofs.lemmas.Bool.{and_right}
use Rattle.std.proofs.lemmas.List.{map_push}
use Rattle.std.proofs.lemmas.Option.{slice_get_within}
use Rattle.std.specs.Option.{option_map_or}
use Rattle.rl_base.specs.Kind.{arms_of}
use Rattle.rl_drafts.specs.Drafts.{number_in}
use Rattle.rl_drafts.proofs.Lookups.{mapped_item}
use Rattle.rl_drafts.proofs.Numbers.{number_in-item}
use Rattle.rl_model.specs.declared.network.SegmentEnd.{SegmentEnd}
use Rattle.rl_ends.specs.EndNames.{end_of}
use Rattle.rl_ends.specs.EndsDrafts.{texts_of, box_names, named_arm, named_arms, end_number}
use Rattle.rl_ends.specs.EndRules.{end_breaks}
use Rattle.rl_ends.specs.EndRefusals.{IsKept}
use Rattle.rl_ends.specs.declared.ends_draft.EndsBox.{EndsBox}
use Rattle.rl_ends.specs.declared.ends_draft.EndsDraft.{EndsDraft}
use Rattle.rl_ends.proofs.ArmNumbers.{end_number-within}
use Rattle.rl_ends.proofs.EndLists.{IsNamed, length-named_arms}
use Rattle.rl_ends.proofs.JoinedLists.{take_item}
use Rattle.rl_ends.proofs.Rules.{end_kept}

-- a text that says something
says_some : {A : Type 0} (o : Option A) → is_none o ≡ false → is_some o ≡ true
says_some None e = sym e
says_some (Some x) e = refl

-- an end that names no box breaks rule 22 where rule 21 is kept
pub no_box : (d : EndsDraft) (k : ℕ) → slice_get (named_arms d) k ≡ Some None → IsKept d 21 → end_breaks d 22 k ≡ true
no_box d k e kept =
    let text = mapped_item (named_arm (box_names d)) (texts_of d.segments) k None e in
    let there : slice_get (texts_of d.segments) k ≡ Some text.0 = text.1 in
    let own : is_none (end_of text.0) ≡ false =
    sym (ap (λ (o : Option (List ℕ)). option_map_or (λ (t : List ℕ). is_none (end_of t)) o false) there) ∙ end_kept d 21 k kept in
    ap (λ (o : Option (List ℕ)). option_map_or (λ (t : List ℕ). is_some (end_of t) && is_none (named_arm (box_names d) t)) o false) there
    ∙ ap₂ (λ (a b : Bool). a && b) (says_some (end_of text.0) own) (ap is_none text.2)

-- one that names an arm doesn't
pub has_box : (d : EndsDraft) (k : ℕ) (e : SegmentEnd) → slice_get (named_arms d) k ≡ Some (Some e) → end_breaks d 22 k ≡ false
has_box d k e h =
    let text = mapped_item (named_arm (box_names d)) (texts_of d.segments) k (Some e) h in
    ap (λ (o : Option (List ℕ)). option_map_or (λ (t : List ℕ). is_some (end_of t) && is_none (named_arm (box_names d) t)) o false) text.1
    ∙ and_right (is_some (end_of text.0)) _ (ap is_none text.2)

-- one arm more is found
pub arms_more : (os : List (Option SegmentEnd)) (arms next : List SegmentEnd) (e : SegmentEnd) (k : ℕ) → slice_get os k ≡ Some (Some e)
    → map (λ (x : SegmentEnd). Some x) arms ≡ take k os → next ≡ arms ++ e ∷ [] → map (λ (x : SegmentEnd). Some x) next ≡ take (k + 1) os
arms_more os arms next e k there before pushed =
    ap (map (λ (x : SegmentEnd). Some x)) pushed
    ∙ (map_push (λ (x : SegmentEnd). Some x) arms e
    ∙ (ap (λ (ys : List (Option SegmentEnd)). ys ++ Some e ∷ []) before ∙ (sym (take_item os k (Some e) there) ∙ ap (λ (n : ℕ). take n os) (sym (add-one k)))))

-- an end lacks its arm where the box has no more
pub lacks : (d : EndsDraft) (k : ℕ) (e : SegmentEnd) (x : EndsBox) → IsNamed d k e → slice_get d.boxes e.at.0 ≡ Some x
    → end_breaks d 23 k ≡ not (ltb e.arm.0 (arms_of x.kind))
lacks d k e x own there = let named = own.named in rw (named, there) refl

-- the number of a box is below the number of boxes
pub number_below : (names : List (List ℕ)) (name : List ℕ) (b : ℕ) → Some b ≡ number_in names name → b < length names
number_below names name b e = slice_get_within names b name (number_in-item names name b (sym e))

-- the segment of an end that is noted
pub half_within : (d : EndsDraft) (b x k : ℕ) → end_number (named_arms d) b x ≡ Some k → k < 2 * length d.segments
half_within d b x k e =
    let l = end_number-within (named_arms d) b x k e in
    let count = length-named_arms d in
    omega arith
