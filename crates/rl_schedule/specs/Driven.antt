-- Where turns lead a core, which moves they make, and the report of a whole schedule.
use Rattle.std.specs.Prelude.{◌≡◌, ℕ, ◌+◌, ◌<◌, ◌≤◌, List, ◌++◌, fold, length, Option, None}
use Rattle.rl_base.specs.Layout.{word_count}
use Rattle.rl_model.specs.declared.moves.Move.{Move}
use Rattle.rl_model.specs.declared.report.Report.{Report}
use Rattle.rl_record.specs.declared.event.Turn.{Turn}
use Rattle.rl_record.specs.declared.event.Turn.TheVariants.{Moved, Idle, Rest, Full}
use Rattle.rl_tables.specs.declared.table.Tables.{Tables}
use Rattle.rl_tables.specs.Starts.{layout_of}
use Rattle.rl_steps.specs.Turn.{Drive, turn_of, driven}
use Rattle.rl_safety.specs.Moves.{move_of, moves_of}
use Rattle.rl_safety.specs.Reports.{report_of}
use Rattle.rl_core.specs.Cores.{Core, LeadsTo}

-- the turns of the nodes, in order, lead from the one core to the other, whatever run led to the first
pub record Leads (from : Core) (nodes : List ℕ) (to : Core) : Type 0 where
  pub line : to.line ≡ from.line
  pub tries : to.tries ≡ from.tries
  pub drives : (d : Drive) → LeadsTo d from → LeadsTo (fold (turn_of from.line from.tries) d nodes) to

-- the turns of the nodes make these moves, in order, whatever run led to the core
abbrev pub Makes : Core → List ℕ → List Move → Type 0
Makes core nodes moves =
    (d : Drive) → LeadsTo d core →
    moves_of core.line (fold (turn_of core.line core.tries) d nodes).events ≡ moves_of core.line d.events ++ moves

-- the turns were made, with these moves
pub record IsDriven (from : Core) (nodes : List ℕ) (moves : List Move) (to : Core) : Type 0 where
  pub leads : Leads from nodes to
  pub makes : Makes from nodes moves

-- the first of the turns were made, and the others not
pub record IsPartlyDriven (from : Core) (nodes : List ℕ) (to : Core) : Type 0 where
  pub made : List ℕ
  pub left : List ℕ
  pub all : nodes ≡ made ++ left
  pub leads : Leads from made to

-- the report of the turns of the nodes, from the start
abbrev pub schedule_report : Tables → (tries : ℕ) → List ℕ → Report
schedule_report tables tries nodes = report_of tables tries (driven tables tries nodes).events

-- the move of a turn, and that the word that it changed is one of the line
abbrev pub move_in : Tables → Turn → Option Move
move_in tables (Moved e) = move_of tables e
move_in tables (Idle was) = None
move_in tables Rest = None
move_in tables Full = None

abbrev pub IsOnLine : Tables → Turn → Type 0
IsOnLine tables (Moved e) = e.word.0 < word_count (layout_of tables)
IsOnLine tables (Idle was) = Unit {0}
IsOnLine tables Rest = Unit {0}
IsOnLine tables Full = Unit {0}

-- whatever was driven to the one core with the moves so far, with the turns of the nodes it is driven to the other
pub record GoesOn (core : Core) (moves : List Move) (nodes : List ℕ) (to : Core) (then_moves : List Move) : Type 0 where
  pub line : to.line ≡ core.line
  pub events : to.events ≤ core.events + length nodes
  pub on : (from : Core) (before : List ℕ) → IsDriven from before moves core
      → IsDriven from (before ++ nodes) then_moves to

-- the same, where it breaks off among these turns
pub record BreaksOff (core : Core) (moves : List Move) (nodes : List ℕ) (to : Core) : Type 0 where
  pub off : (from : Core) (before : List ℕ) → IsDriven from before moves core → IsPartlyDriven from (before ++ nodes) to
