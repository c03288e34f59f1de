-- The sense word of a train: what fits it, its bits, and its packing.
use Rattle.std.specs.Prelude.{ℕ, ◌+◌, ◌*◌, ◌^◌, ◌<◌, ◌≤◌}
use Rattle.rl_base.specs.declared.limits.TheConstants.{MAX_STEPS}
use Rattle.rl_words.specs.declared.sense.SenseWord.{SenseWord}
use Rattle.rl_words.specs.declared.sense.SenseWord.TheVariants.{Quiet, Head, Tail}

-- the step is one of a route within its limit, or the one behind its last while nothing is under way
abbrev pub FitsSense : SenseWord → Type 0
FitsSense (Quiet k) = k ≤ MAX_STEPS
FitsSense (Head k) = k < MAX_STEPS
FitsSense (Tail k) = k < MAX_STEPS

-- the tag in bits 0 and 1, the step in bits 2 to 8
abbrev pub packed_sense : SenseWord → ℕ
packed_sense (Quiet k) = k * 2 ^ 2
packed_sense (Head k) = 1 + k * 2 ^ 2
packed_sense (Tail k) = 2 + k * 2 ^ 2
