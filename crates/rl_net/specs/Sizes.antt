-- How much a draft may hold once its counts have been looked at.
use Rattle.std.specs.Prelude.{ℕ, ◌≤◌, length}
use Rattle.rl_base.specs.declared.limits.TheConstants.{MAX_SEGMENTS, MAX_BOXES, MAX_TRAINS, MAX_ROUTE}
use Rattle.rl_base.specs.declared.draft.Draft.{Draft}
use Rattle.rl_drafts.specs.Search.{arms_at, route_length}

-- no more segments, boxes, trains and route places than a network has
pub record HasFewItems (d : Draft) : Type 0 where
  pub segments : length d.segments ≤ MAX_SEGMENTS
  pub boxes : length d.boxes ≤ MAX_BOXES
  pub trains : length d.trains ≤ MAX_TRAINS
  pub routes : (i : ℕ) → route_length d i ≤ MAX_ROUTE

-- no more arms than a box has
pub record HasFewArms (d : Draft) : Type 0 where
  pub boxes : (i : ℕ) → arms_at d i ≤ 4
