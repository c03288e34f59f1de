-- The first refusal of segments with ends as a search: rule by rule, and end by end or box by box.
use Rattle.std.specs.Prelude.{ℕ, zero, suc, ◌*◌, ◌/◌, ◌%◌, Bool, if◌then◌else◌, length, Option, Some, None, option_map}
use Rattle.std.specs.Option.{option_or}
use Rattle.rl_base.specs.declared.place.Place.{Place}
use Rattle.rl_base.specs.declared.place.Place.TheVariants as place
use Rattle.rl_drafts.specs.Search.{Refusal, refuse}
use Rattle.rl_ends.specs.EndRules.{end_breaks, breaks}
use Rattle.rl_ends.specs.declared.ends_draft.EndsDraft.{EndsDraft}

-- the least number below n at which the test passes
abbrev pub least_below : (ℕ → Bool) → ℕ → Option ℕ
least_below test zero = None
least_below test (suc n) = option_or (least_below test n) (if test n then Some n else None)

-- the place of end k
abbrev pub end_place : ℕ → Place
end_place k = place.SegEnd (k / 2) (k % 2)

-- the first place at which an end breaks the rule, or a box rule 25
abbrev pub first_end : EndsDraft → ℕ → Option Place
first_end d n = option_map end_place (least_below (end_breaks d n) (2 * length d.segments))

abbrev pub first_box : EndsDraft → Option Place
first_box d = option_map (λ i. place.BoxItem i) (least_below (λ i. breaks d 25 (place.BoxItem i)) (length d.boxes))

-- the first refusal
abbrev pub first_refusal : EndsDraft → Option Refusal
first_refusal d =
    refuse 21 (first_end d 21)
    (refuse 22 (first_end d 22)
    (refuse 23 (first_end d 23) (refuse 24 (first_end d 24) (refuse 25 (first_box d) None))))
