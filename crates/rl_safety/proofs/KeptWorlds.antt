-- What every move keeps is so after guarded moves.
use Rattle.std.proofs.Common.{List, [], ◌∷◌, fold}
use Rattle.rl_model.specs.declared.moves.Move.{Move}
use Rattle.rl_model.specs.declared.network.NetworkPlan.{NetworkPlan}
use Rattle.rl_model.specs.Moves.{guards, AllHold, after}
use Rattle.rl_model.specs.Safety.{IsKept, GuardedFrom}
use Rattle.rl_model.specs.World.{World}

-- the law of one move
abbrev pub KeepsKept : Type 0
KeepsKept = (net : NetworkPlan) (w : World) (m : Move) → IsKept net w → AllHold (guards net w m) → IsKept net (after w m)

pub kept_after_moves : KeepsKept → (net : NetworkPlan) (w : World) (moves : List Move) → IsKept net w → GuardedFrom net w moves
    → IsKept net (fold after w moves)
kept_after_moves law net w [] kept guarded = kept
kept_after_moves law net w (m ∷ ms) kept guarded = kept_after_moves law net (after w m) ms (law net w m kept guarded.0) guarded.1
