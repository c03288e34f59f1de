-- The run word of a train: what fits it, its bits, and its packing.
use Rattle.std.specs.Prelude.{ℕ, ◌+◌, ◌*◌, ◌^◌, ◌<◌, ◌≤◌}
use Rattle.rl_base.specs.declared.limits.TheConstants.{MAX_STEPS}
use Rattle.rl_words.specs.declared.run.RunWord.{RunWord}
use Rattle.rl_words.specs.declared.run.RunWord.TheVariants.{Clear, Go, Across}

-- the step is one of a route within its limit, or the one behind its last while nothing is under way
abbrev pub FitsRun : RunWord → Type 0
FitsRun (Clear k) = k ≤ MAX_STEPS
FitsRun (Go k) = k < MAX_STEPS
FitsRun (Across k) = k < MAX_STEPS

-- the tag in bits 0 and 1, the step in bits 2 to 8
abbrev pub packed_run : RunWord → ℕ
packed_run (Clear k) = k * 2 ^ 2
packed_run (Go k) = 1 + k * 2 ^ 2
packed_run (Across k) = 2 + k * 2 ^ 2
