-- The items of a schedule as it is kept.
use Rattle.std.specs.Prelude.{List, [], ◌∷◌}
use Rattle.rl_schedule.specs.declared.schedules.Item.{Item}
use Rattle.rl_schedule.specs.declared.schedules.Item.TheVariants.{Round}
use Rattle.rl_schedule.specs.declared.schedules.Items.{Items}
use Rattle.rl_schedule.specs.declared.schedules.Items.TheVariants as kept

-- those that were read, or one of so many rounds
abbrev pub items_kept : Items → List Item
items_kept (kept.Read items) = items
items_kept (kept.Rounds count) = Round count ∷ []
