-- The way back: the segments with ends of a draft.
use Rattle.std.specs.Prelude.{◌≡◌, ◌≢◌, ℕ, true, false, List, [], map, length, slice_get, Some}
use Rattle.std.specs.Option.{option_map_or}
use Rattle.rl_base.specs.Draft.{HasNames}
use Rattle.rl_base.specs.Kind.{arms_of}
use Rattle.rl_base.specs.declared.draft.Draft.{Draft}
use Rattle.rl_base.specs.declared.draft.DraftBox.{DraftBox}
use Rattle.rl_model.specs.declared.network.SegmentEnd.{SegmentEnd}
use Rattle.rl_drafts.specs.Drafts.{box_names, ends_of, segment_of}
use Rattle.rl_drafts.specs.Refusals.{is_among, is_twice}
use Rattle.rl_ends.specs.EndNames.{end_text}
use Rattle.rl_ends.specs.declared.ends_draft.EndsSegment.{EndsSegment}
use Rattle.rl_ends.specs.declared.ends_draft.EndsBox.{EndsBox}
use Rattle.rl_ends.specs.declared.ends_draft.EndsDraft.{EndsDraft}

-- the segment is named at two arms, of two boxes
pub record HasTwoEnds (d : Draft) (name : List ℕ) : Type 0 where
  pub two : length (ends_of d name) ≡ 2
  pub apart : (segment_of d name).low.at.0 ≢ (segment_of d name).high.at.0

-- Each text that should be a name is one, no two boxes and no two segments have one name, each box has its kind's number
-- of arms, each segment has two ends, at two boxes, and each arm's name is a segment
pub record IsWhole (d : Draft) : Type 0 where
  pub names : HasNames d
  pub boxes_differ : (i : ℕ) → is_twice (box_names d) i ≡ false
  pub segments_differ : (i : ℕ) → is_twice d.segments i ≡ false
  pub arm_counts : (b : ℕ) (x : DraftBox) → slice_get d.boxes b ≡ Some x → length x.arms ≡ arms_of x.kind
  pub ends : (s : ℕ) (name : List ℕ) → slice_get d.segments s ≡ Some name → HasTwoEnds d name
  pub arms : (b i : ℕ) (x : DraftBox) (name : List ℕ) → slice_get d.boxes b ≡ Some x → slice_get x.arms i ≡ Some name
      → is_among d.segments name ≡ true

-- the text that names an arm
abbrev pub text_of_end : Draft → SegmentEnd → List ℕ
text_of_end d e = end_text (option_map_or (λ (x : DraftBox). x.name) (slice_get d.boxes e.at.0) []) e.arm.0

-- a segment with its ends, that at the box with the lower number first
abbrev pub parted_segment : Draft → List ℕ → EndsSegment
parted_segment d name =
    record {
      name = name;
      first = text_of_end d (segment_of d name).low;
      second = text_of_end d (segment_of d name).high;
    }

-- a box without the names at its arms
abbrev pub parted_box : DraftBox → EndsBox
parted_box x = record { name = x.name; kind = x.kind; at = x.at }

-- the segments with ends of a draft
abbrev pub parted : Draft → EndsDraft
parted d =
    record { segments = map (parted_segment d) d.segments; boxes = map parted_box d.boxes; trains = d.trains }
