-- The draft that segments with ends say: the name at an arm is that of the segment whose end names the arm.
use Rattle.std.specs.Prelude.{ℕ, zero, suc, ◌/◌, ◌==◌, Bool, false, ◌&&◌, List, [], ◌∷◌, ◌++◌, map, slice_get, Option, Some, None, option_map, option_and_then, if◌then◌else◌}
use Rattle.std.specs.Option.{option_map_or}
use Rattle.rl_base.specs.Kind.{arms_of}
use Rattle.rl_base.specs.declared.draft.Draft.{Draft}
use Rattle.rl_base.specs.declared.draft.DraftBox.{DraftBox}
use Rattle.rl_model.specs.declared.network.SegmentEnd.{SegmentEnd}
use Rattle.rl_drafts.specs.Drafts.{number_in, end_at}
use Rattle.rl_ends.specs.EndNames.{end_of}
use Rattle.rl_ends.specs.declared.ends_draft.EndsSegment.{EndsSegment}
use Rattle.rl_ends.specs.declared.ends_draft.EndsBox.{EndsBox}
use Rattle.rl_ends.specs.declared.ends_draft.EndsDraft.{EndsDraft}

-- the texts of all ends, segment by segment: ends 2s and 2s + 1 are those of segment s
abbrev pub texts_of : List EndsSegment → List (List ℕ)
texts_of [] = []
texts_of (g ∷ gs) = g.first ∷ g.second ∷ texts_of gs

abbrev pub box_names : EndsDraft → List (List ℕ)
box_names d = map (λ (x : EndsBox). x.name) d.boxes

-- the arm that a text names: an arm of the first box of that name, and of no other
abbrev pub named_arm : List (List ℕ) → List ℕ → Option SegmentEnd
named_arm names text = option_and_then (λ e. option_map (λ b. end_at b e.arm) (number_in names e.name)) (end_of text)

-- the arms that all ends name, none for an end that names none
abbrev pub named_arms : EndsDraft → List (Option SegmentEnd)
named_arms d = map (named_arm (box_names d)) (texts_of d.segments)

-- this is arm x of box b
abbrev pub is_arm : ℕ → ℕ → Option SegmentEnd → Bool
is_arm b x None = false
is_arm b x (Some e) = e.at.0 == b && e.arm.0 == x

-- the number of the first of these ends that names arm x of box b
abbrev pub end_number : List (Option SegmentEnd) → ℕ → ℕ → Option ℕ
end_number [] b x = None
end_number (o ∷ os) b x = if is_arm b x o then Some 0 else option_map suc (end_number os b x)

-- the name of the segment that end k is an end of
abbrev pub segment_name : EndsDraft → ℕ → List ℕ
segment_name d k = option_map_or (λ (g : EndsSegment). g.name) (slice_get d.segments (k / 2)) []

-- the name of the segment whose end names arm x of box b
abbrev pub arm_name : EndsDraft → ℕ → ℕ → List ℕ
arm_name d b x = option_map_or (segment_name d) (end_number (named_arms d) b x) []

-- the names at the first n arms of box b
abbrev pub arm_names : EndsDraft → ℕ → ℕ → List (List ℕ)
arm_names d b zero = []
arm_names d b (suc n) = arm_names d b n ++ arm_name d b n ∷ []

abbrev pub joined_box : EndsDraft → ℕ → EndsBox → DraftBox
joined_box d b x = record { name = x.name; kind = x.kind; arms = arm_names d b (arms_of x.kind); at = x.at }

-- the boxes, from number b on
abbrev pub joined_boxes : EndsDraft → ℕ → List EndsBox → List DraftBox
joined_boxes d b [] = []
joined_boxes d b (x ∷ xs) = joined_box d b x ∷ joined_boxes d (suc b) xs

-- the draft of segments with ends
abbrev pub draft_of : EndsDraft → Draft
draft_of d =
    record {
      segments = map (λ (g : EndsSegment). g.name) d.segments;
      boxes = joined_boxes d 0 d.boxes;
      trains = d.trains;
    }
