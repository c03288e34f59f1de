-- What a test of the guards of a move answers.
use Rattle.std.specs.Prelude.{Result, MatchResult}
use Rattle.rl_model.specs.Moves.{Guards, AllHold, FirstFails}
use Rattle.rl_domain.specs.declared.world.Guard.{Guard}

-- Ok where every guard holds, and else the first that fails
abbrev pub Tests : Guards → Result (Unit {0}) Guard → Type 0
Tests guards result = MatchResult result (λ _. AllHold guards) (λ (g : Guard). FirstFails g.number guards)
