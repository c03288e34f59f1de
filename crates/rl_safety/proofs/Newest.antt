-- The newest event of a run: its step, and its move in the world.
use Rattle.std.proofs.Common.{◌≡◌, ℕ, List, [], ◌∷◌, Option, Some, None, refl, sym, ap, ◌∙◌}
use Rattle.rl_model.specs.declared.moves.Move.{Move}
use Rattle.rl_model.specs.declared.network.NetworkPlan.{NetworkPlan}
use Rattle.rl_model.specs.Moves.{guards, AllHold, after, IsMoveOf}
use Rattle.rl_record.specs.declared.event.Event.{Event}
use Rattle.rl_tables.specs.declared.table.Tables.{Tables}
use Rattle.rl_steps.specs.Run.{state}
use Rattle.rl_steps.specs.State as cores
use Rattle.rl_protocol.specs.Agreement.{Agrees}
use Rattle.rl_protocol.specs.Line.{Line}
use Rattle.rl_protocol.specs.State.{State}
use Rattle.rl_protocol.specs.StepMoves as moves
use Rattle.rl_protocol.specs.Steps.{Step, StepFits, next}
use Rattle.rl_protocol.specs.TableLine.{line_of}
use Rattle.rl_protocol.specs.Worlds.{IsRailway, world_at}
use Rattle.rl_safety.specs.Guarded.{IsMoved, IsGuarded}
use Rattle.rl_safety.specs.Moves.{move_of}
use Rattle.rl_safety.specs.Reading.{read}
use Rattle.rl_safety.specs.Stepped.{IsStepOf, AreStepsOf, IsStepped}
use Rattle.rl_safety.specs.World.{world_of_core}

pub newest_step : (tables : Tables) (tries : ℕ) (e : Event) (earlier : List Event) → IsStepped tables tries (e ∷ earlier)
    → (step : Step) × IsStepOf tables tries (state tables tries earlier) e step
newest_step tables tries e earlier is = by is.steps is.each
  where
    by : (steps : List Step) → AreStepsOf tables tries (e ∷ earlier) steps → (step : Step) × IsStepOf tables tries (state tables tries earlier) e step
    by [] none = absurd none
    by (step ∷ steps) each = (step, each.1)

-- what is so of single steps, by the protocol's own law
pub record StepLaws : Type 0 where
  pub guarded : (net : NetworkPlan) (line : Line) (tries : ℕ) (s : State) (step : Step) (m : Move) → IsRailway net line → Agrees line tries s
      → StepFits line s step → moves.move_of line step ≡ Some m → AllHold (guards net (world_at net s) m)
  pub moved : (net : NetworkPlan) (line : Line) (tries : ℕ) (s : State) (step : Step) (m : Move) → IsRailway net line → Agrees line tries s
      → StepFits line s step → moves.move_of line step ≡ Some m → world_at net (next line s step) ≡ after (world_at net s) m
  pub unmoved : (net : NetworkPlan) (line : Line) (tries : ℕ) (s : State) (step : Step) → IsRailway net line → Agrees line tries s
      → StepFits line s step → moves.move_of line step ≡ None → world_at net (next line s step) ≡ world_at net s

pub guarded_step : StepLaws → (net : NetworkPlan) (tables : Tables) (tries : ℕ) (before : cores.CoreState) (e : Event) (step : Step)
    → IsRailway net (line_of tables) → Agrees (line_of tables) tries (read tables tries before) → IsStepOf tables tries before e step
    → ((m : Move) → move_of tables e ≡ Some m → IsMoveOf net m) → IsGuarded net tables before (cores.after tables before e) e
guarded_step laws net tables tries before e step railway agrees is named = by (move_of tables e) refl
  where
    left : world_of_core net tables (cores.after tables before e) ≡ world_at net (next (line_of tables) (read tables tries before) step)
    left = ap (world_at net) is.leaves

    by : (o : Option Move) → move_of tables e ≡ o
        → IsMoved net (world_of_core net tables before) (world_of_core net tables (cores.after tables before e)) o
    by None none = left ∙ laws.unmoved net (line_of tables) tries (read tables tries before) step railway agrees is.fits (sym is.move ∙ none)
    by (Some m) some =
        let has = sym is.move ∙ some in
        record {
          named = named m some;
          guarded = laws.guarded net (line_of tables) tries (read tables tries before) step m railway agrees is.fits has;
          moved = left ∙ laws.moved net (line_of tables) tries (read tables tries before) step m railway agrees is.fits has;
        }
