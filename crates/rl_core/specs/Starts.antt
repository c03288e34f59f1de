-- The minds of a core at the start, node by node.
use Rattle.std.specs.Prelude.{◌≡◌, ℕ, ◌<◌, List, length, slice_index_or}
use Rattle.rl_tables.specs.declared.table.Tables.{Tables}
use Rattle.rl_steps.specs.declared.mind.Mind.{Mind}
use Rattle.rl_steps.specs.declared.mind.Mind.TheVariants.{Machine}
use Rattle.rl_steps.specs.State.{start_mind}

-- the minds of the first nodes
pub record AreStartMinds (tables : Tables) (tries count : ℕ) (minds : List Mind) : Type 0 where
  pub size : length minds ≡ count
  pub each : (n : ℕ) → n < count → slice_index_or minds n (Machine record {}) ≡ start_mind tables tries n
