-- The reservation word of a box: what fits it, its bits, and its packing.
use Rattle.std.specs.Prelude.{ℕ, ◌==◌, ◌+◌, ◌*◌, ◌^◌, ◌<◌, Option, Some, None, if◌then◌else◌}
use Rattle.rl_base.specs.declared.ids.TrainId.{TrainId}
use Rattle.rl_base.specs.declared.limits.TheConstants.{MAX_TRAINS}
use Rattle.rl_words.specs.declared.resv.ResvWord.{ResvWord}

-- an arm that is held is held by one of the most trains that a network may have
abbrev pub FitsArm : Option TrainId → Type 0
FitsArm None = Unit {0}
FitsArm (Some t) = t.0 < MAX_TRAINS

pub record FitsResv (w : ResvWord) : Type 0 where
  pub arm0 : FitsArm w.arm0
  pub arm1 : FitsArm w.arm1
  pub arm2 : FitsArm w.arm2
  pub arm3 : FitsArm w.arm3

-- 0 for a free arm, else one more than the number of the train
abbrev pub arm_code : Option TrainId → ℕ
arm_code None = 0
arm_code (Some t) = t.0 + 1

-- six bits for each arm, arm 0 in the lowest
abbrev pub packed_resv : ResvWord → ℕ
packed_resv w = arm_code w.arm0 + arm_code w.arm1 * 2 ^ 6 + arm_code w.arm2 * 2 ^ 12 + arm_code w.arm3 * 2 ^ 18

-- who holds the segment at arm x, for x below 4
abbrev pub arm_in : ResvWord → ℕ → Option TrainId
arm_in w x = if x == 0 then w.arm0 else (if x == 1 then w.arm1 else (if x == 2 then w.arm2 else w.arm3))

-- the word with arm x held as said, for x below 4
abbrev pub with_arm : ResvWord → ℕ → Option TrainId → ResvWord
with_arm w x arm =
    if x == 0 then record w { arm0 = arm } else
    (if x == 1 then record w { arm1 = arm } else
    (if x == 2 then record w { arm2 = arm } else record w { arm3 = arm }))
