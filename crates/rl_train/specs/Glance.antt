-- What a train sees of a payload at a glance, before it is unpacked.
use Rattle.std.specs.Prelude.{ℕ, ◌%◌, ◌==◌, Bool, true, ◌||◌, if◌then◌else◌}
use Rattle.rl_base.specs.declared.job.Job.{Job}
use Rattle.rl_train.specs.Jobs.{is_pass}

-- the lowest three bits are those of an answer
abbrev pub answers : ℕ → Bool
answers payload = payload % 8 == 3 || payload % 8 == 4

-- the lowest two bits are those of a tail that is past the box
abbrev pub is_tail : ℕ → Bool
is_tail payload = payload % 4 == 2

-- a word with the payload may be one at which the train has a step
abbrev pub may_hear : Bool → Job → ℕ → Bool
may_hear waits job payload = if waits then (if is_pass job then is_tail payload else answers payload) else true
