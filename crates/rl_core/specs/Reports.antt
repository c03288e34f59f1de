-- What a report is made of: the minds that a run leaves, and what its moves count for each train.
use Rattle.std.specs.Prelude.{◌≡◌, ℕ, ◌+◌, List, map, slice_get, slice_index_or, Some}
use Rattle.std.specs.List.{range_with_len}
use Rattle.rl_model.specs.declared.moves.Move.{Move}
use Rattle.rl_model.specs.Reports.{made_in, refused_in}
use Rattle.rl_model.specs.declared.report.Outcome.{Outcome}
use Rattle.rl_record.specs.declared.event.Event.{Event}
use Rattle.rl_tables.specs.declared.table.Tables.{Tables}
use Rattle.rl_steps.specs.declared.mind.Mind.{Mind}
use Rattle.rl_steps.specs.declared.mind.Mind.TheVariants.{Machine}
use Rattle.rl_steps.specs.Run.{state}
use Rattle.rl_safety.specs.Reading.{train_mind}
use Rattle.rl_safety.specs.Reports.{outcome_of}
use Rattle.rl_core.specs.declared.reports.Count.{Count}

-- each mind is that of its node after the run
abbrev pub AreMindsAfter : Tables → (tries : ℕ) → List Event → List Mind → Type 0
AreMindsAfter tables tries events minds =
    (n : ℕ) (mind : Mind) → slice_get minds n ≡ Some mind → (state tables tries events).minds n ≡ mind

-- the steps that train t made, and the refusals that it met
abbrev pub count_of : List Move → ℕ → Count
count_of moves t = record { made = made_in moves t; refused = refused_in moves t }

-- the same for so many trains, in order
abbrev pub counts_of : List Move → (trains : ℕ) → List Count
counts_of moves trains = map (count_of moves) (range_with_len 0 trains)

abbrev pub sum_of : Count → Count → Count
sum_of a b = record { made = a.made + b.made; refused = a.refused + b.refused }

-- the outcomes of all trains by the moves and the minds, of which those of the trains come first
abbrev pub outcomes_by : Tables → (tries : ℕ) → List Move → List Mind → (trains : ℕ) → List Outcome
outcomes_by tables tries moves minds trains =
    map (λ t. outcome_of tables moves t (train_mind tries (slice_index_or minds t (Machine record {}))))
    (range_with_len 0 trains)
