-- Records and minds, as the parts are taken in one after another.
use Rattle.std.specs.Prelude.{[], ◌∷◌, ◌++◌}
use Rattle.rl_nodes.specs.declared.parts.Part.{Part}
use Rattle.rl_nodes.specs.declared.finishing.Left.{Left}

-- with those of one part more
abbrev pub with_part : Left → Part → Left
with_part left part =
    record { records = left.records ++ part.«record» ∷ []; minds = left.minds ++ part.mind ∷ [] }
