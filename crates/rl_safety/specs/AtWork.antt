-- A node that has a step on a word, in a state of a core.
use Rattle.std.specs.Prelude.{◌≡◌, ℕ, Some}
use Rattle.rl_base.specs.declared.layout.WordKind.{WordKind}
use Rattle.rl_base.specs.Layout.{word_number}
use Rattle.rl_tables.specs.declared.table.Tables.{Tables}
use Rattle.rl_tables.specs.Starts.{layout_of}
use Rattle.rl_steps.specs.declared.mind.Mind.{Mind}
use Rattle.rl_steps.specs.State.{CoreState}
use Rattle.rl_steps.specs.Step.{node_step}
use Rattle.rl_safety.specs.Reading.{payload_of}

-- node n can make a step on the word of the kind, to this payload and this mind
pub record CanStep (tables : Tables) (c : CoreState) (n : ℕ) (kind : WordKind) : Type 0 where
  pub payload : ℕ
  pub mind : Mind
  pub step : node_step tables n (c.minds n) (word_number (layout_of tables) kind) (payload_of tables c kind)
      ≡ Some (payload, mind)
