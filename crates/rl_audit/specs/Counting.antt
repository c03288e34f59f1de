-- The counts of the trains, as moves are read.
use Rattle.std.specs.Prelude.{◌≡◌, ℕ, ◌<◌, List, slice_get, Some}
use Rattle.rl_model.specs.declared.moves.Move.{Move}
use Rattle.rl_model.specs.declared.moves.Move.TheVariants.{Leave, Refuse, Bar}
use Rattle.rl_model.specs.Reports.{made_in, refused_in}
use Rattle.rl_audit.specs.declared.counts.Count.{Count}

-- the counts are those of the moves
abbrev pub AreCounts : List Move → List Count → Type 0
AreCounts moves counts =
    (t : ℕ) (x : Count) → slice_get counts t ≡ Some x → (x.made ≡ made_in moves t) × (x.refused ≡ refused_in moves t)

-- a train that the move counts for is one of so many
abbrev pub IsCounted : ℕ → Move → Type 0
IsCounted trains (Leave t s) = t.0 < trains
IsCounted trains (Refuse t s b u) = t.0 < trains
IsCounted trains (Bar t b u) = t.0 < trains
IsCounted trains _ = Unit {0}
