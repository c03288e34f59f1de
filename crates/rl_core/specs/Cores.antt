-- A core as code keeps it, in tables, and the state and the run that these tables stand for.
use Rattle.std.specs.Prelude.{◌≡◌, ℕ, ◌<◌, ◌≤◌, ◌^◌, List, length, slice_get, slice_index_or, Some}
use Rattle.rl_base.specs.Tries.{AreFewTries}
use Rattle.rl_base.specs.Layout.{word_count, node_count}
use Rattle.rl_tables.specs.declared.table.Tables.{Tables}
use Rattle.rl_tables.specs.Kept.{IsLine}
use Rattle.rl_tables.specs.Starts.{layout_of}
use Rattle.rl_steps.specs.declared.mind.Mind.{Mind}
use Rattle.rl_steps.specs.declared.mind.Mind.TheVariants.{Machine}
use Rattle.rl_steps.specs.State.{CoreState}
use Rattle.rl_steps.specs.Run.{IsRun, state}
use Rattle.rl_steps.specs.Turn.{Drive}

-- what contracts see of a `Core`: words by their numbers; minds, clocks and scan places by the numbers of the nodes
pub record Core : Type 0 where
  pub line : Tables
  pub tries : ℕ
  pub words : List ℕ
  pub minds : List Mind
  pub clocks : List ℕ
  pub scans : List ℕ
  pub events : ℕ

-- the state that they are
abbrev pub state_of : Core → CoreState
state_of core =
    record {
      words = core.words;
      minds = λ n. slice_index_or core.minds n (Machine record {});
      clocks = λ n. slice_index_or core.clocks n 0;
    }

-- the run and the scan places lead to this core
pub record LeadsTo (drive : Drive) (core : Core) : Type 0 where
  pub run : IsRun core.line core.tries drive.events
  pub state : state core.line core.tries drive.events ≡ state_of core
  pub scans : (n : ℕ) → n < node_count (layout_of core.line) → slice_get core.scans n ≡ Some (drive.scans n)
  pub events : core.events ≡ length drive.events

-- the tables have the sizes of the line
pub record HasSizes (core : Core) : Type 0 where
  pub words : length core.words ≡ word_count (layout_of core.line)
  pub minds : length core.minds ≡ node_count (layout_of core.line)
  pub clocks : length core.clocks ≡ node_count (layout_of core.line)
  pub scans : length core.scans ≡ node_count (layout_of core.line)

-- some run leads to the core, which has the sizes of its line. Its events are as few as stamps have room for
pub record IsReached (core : Core) : Type 0 where
  pub drive : Drive
  pub leads : LeadsTo drive core
  pub sizes : HasSizes core
  pub places : (n : ℕ) → n < node_count (layout_of core.line) → drive.scans n ≤ length core.line.trains
  pub line : IsLine core.line
  pub some_tries : 1 ≤ core.tries
  pub few_tries : AreFewTries core.tries
  pub few : core.events < 2 ^ 32
