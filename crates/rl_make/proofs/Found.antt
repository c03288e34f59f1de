-- The segments and boxes that a route names are there.
use Rattle.std.proofs.Common.{◌≡◌, ℕ, ◌<◌, ◌^◌, true, Some, bytes_eq, ◌∙◌}
use Rattle.rl_base.specs.declared.draft.DraftBox.{DraftBox}
use Rattle.rl_drafts.specs.Drafts.{box_names}
use Rattle.rl_drafts.specs.Refusals.{is_among, box_named}
use Rattle.rl_make.specs.Ring.{upper, lower, middle, line, entry, exit, joint, station_before, segments_of, point_box, joint_box, boxes_of, each, ring}
use Rattle.rl_make.proofs.Distinct.{names_of_boxes, box_names-ring}
use Rattle.rl_make.proofs.Each.{any-each-some, among-any, find-each}
use Rattle.rl_make.proofs.Names.{same, differs}

pub upper_is : (n i : ℕ) → i < n → is_among (each segments_of n) (upper i) ≡ true
upper_is n i l = among-any (each segments_of n) (upper i) ∙ any-each-some (λ m. bytes_eq m (upper i)) segments_of n i l (rw (same i))

pub lower_is : (n i : ℕ) → i < n → is_among (each segments_of n) (lower i) ≡ true
lower_is n i l = among-any (each segments_of n) (lower i) ∙ any-each-some (λ m. bytes_eq m (lower i)) segments_of n i l (rw (same i))

pub middle_is : (n i : ℕ) → i < n → is_among (each segments_of n) (middle i) ≡ true
middle_is n i l = among-any (each segments_of n) (middle i) ∙ any-each-some (λ m. bytes_eq m (middle i)) segments_of n i l (rw (same i))

pub line_is : (n i : ℕ) → i < n → is_among (each segments_of n) (line i) ≡ true
line_is n i l = among-any (each segments_of n) (line i) ∙ any-each-some (λ m. bytes_eq m (line i)) segments_of n i l (rw (same i))

pub entry_is : (n i : ℕ) → i < n → is_among (box_names (ring n)) (entry i) ≡ true
entry_is n i l = rw (box_names-ring n)
    (among-any (each names_of_boxes n) (entry i) ∙ any-each-some (λ m. bytes_eq m (entry i)) names_of_boxes n i l (rw (same i)))

pub exit_is : (n i : ℕ) → i < n → is_among (box_names (ring n)) (exit i) ≡ true
exit_is n i l = rw (box_names-ring n) (among-any (each names_of_boxes n) (exit i) ∙ any-each-some (λ m. bytes_eq m (exit i)) names_of_boxes n i l (rw (same i)))

pub joint_is : (n i : ℕ) → i < n → is_among (box_names (ring n)) (joint i) ≡ true
joint_is n i l = rw (box_names-ring n)
    (among-any (each names_of_boxes n) (joint i) ∙ any-each-some (λ m. bytes_eq m (joint i)) names_of_boxes n i l (rw (same i)))

-- and a name finds its box
pub entry_found : (n i : ℕ) → i < n → i < 2 ^ 64 → box_named (ring n) (entry i) ≡ Some (point_box (entry i) (line (station_before n i)) (upper i) (lower i))
entry_found n i l fits =
    find-each (λ (x : DraftBox). bytes_eq x.name (entry i)) (boxes_of n) n i (point_box (entry i) (line (station_before n i)) (upper i) (lower i)) l
    (λ j m. rw (differs j i m fits)) (rw (same i))

pub exit_found : (n i : ℕ) → i < n → i < 2 ^ 64 → box_named (ring n) (exit i) ≡ Some (point_box (exit i) (middle i) (upper i) (lower i))
exit_found n i l fits =
    find-each (λ (x : DraftBox). bytes_eq x.name (exit i)) (boxes_of n) n i (point_box (exit i) (middle i) (upper i) (lower i)) l
    (λ j m. rw (differs j i m fits)) (rw (same i))

pub joint_found : (n i : ℕ) → i < n → i < 2 ^ 64 → box_named (ring n) (joint i) ≡ Some (joint_box (joint i) (middle i) (line i))
joint_found n i l fits =
    find-each (λ (x : DraftBox). bytes_eq x.name (joint i)) (boxes_of n) n i (joint_box (joint i) (middle i) (line i)) l
    (λ j m. rw (differs j i m fits)) (rw (same i))
