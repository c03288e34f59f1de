-- The report of a run: its moves, and the outcome of each train by the mind that the run leaves it and by the moves.
use Rattle.std.specs.Prelude.{ℕ, ◌==◌, List, map, length, slice_get, if◌then◌else◌}
use Rattle.std.specs.List.{range_with_len}
use Rattle.std.specs.Option.{option_map_or}
use Rattle.rl_model.specs.declared.moves.Move.{Move}
use Rattle.rl_model.specs.declared.report.Fate.{Fate}
use Rattle.rl_model.specs.declared.report.Fate.TheVariants.{Arrived, Spent, Underway}
use Rattle.rl_model.specs.declared.report.Outcome.{Outcome}
use Rattle.rl_model.specs.declared.report.Report.{Report}
use Rattle.rl_model.specs.Reports.{made_in, refused_in}
use Rattle.rl_record.specs.declared.event.Event.{Event}
use Rattle.rl_tables.specs.declared.table.Tables.{Tables}
use Rattle.rl_tables.specs.declared.table.TrainTable.{TrainTable}
use Rattle.rl_train.specs.declared.mind.TrainMind.{TrainMind}
use Rattle.rl_train.specs.Mind.{at_rest}
use Rattle.rl_steps.specs.Run.{state}
use Rattle.rl_safety.specs.Moves.{moves_of}
use Rattle.rl_safety.specs.Reading.{train_of}

-- a train with this table that is at rest has arrived where it has made every step of its route, and has spent its
-- attempts below that; any other train is under way
abbrev pub fate_by : TrainTable → TrainMind → Fate
fate_by x mind = if at_rest x mind then (if mind.step == length x.rows then Arrived else Spent) else Underway

-- the same of train t
abbrev pub fate_of : Tables → ℕ → TrainMind → Fate
fate_of tables t mind = option_map_or (λ (x : TrainTable). fate_by x mind) (slice_get tables.trains t) Underway

-- the outcome of train t by its mind, and by what the moves count for it
abbrev pub outcome_of : Tables → List Move → ℕ → TrainMind → Outcome
outcome_of tables moves t mind =
    record { fate = fate_of tables t mind; made = made_in moves t; refused = refused_in moves t }

-- the mind of train t after a run, which has the newest event first
abbrev pub mind_in : Tables → (tries : ℕ) → List Event → ℕ → TrainMind
mind_in tables tries events t = train_of tables tries (state tables tries events) t

-- the outcomes of all trains, in order
abbrev pub outcomes_of : Tables → (tries : ℕ) → List Event → List Outcome
outcomes_of tables tries events =
    map (λ t. outcome_of tables (moves_of tables events) t (mind_in tables tries events t))
    (range_with_len 0 (length tables.trains))

-- the report of a run
abbrev pub report_of : Tables → (tries : ℕ) → List Event → Report
report_of tables tries events =
    record { tries = tries; moves = moves_of tables events; outcomes = outcomes_of tables tries events }
