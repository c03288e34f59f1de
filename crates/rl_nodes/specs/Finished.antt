-- What the nodes of some rails did together, once all of them are parted: one run, and the words and the minds that it
-- leaves.
use Rattle.std.specs.Prelude.{◌≡◌, ℕ, ◌*◌, ◌≤◌, List, length, map, reverse, All, slice_get, Some}
use Rattle.rl_base.specs.declared.limits.TheConstants.{MAX_ATTEMPT_EVENTS, MAX_ATTEMPT_NODE_EVENTS}
use Rattle.rl_base.specs.Numbers.{IsU32}
use Rattle.rl_record.specs.declared.event.Event.{Event}
use Rattle.rl_record.specs.Records.{Record}
use Rattle.rl_steps.specs.declared.mind.Mind.{Mind}
use Rattle.rl_steps.specs.State.{CoreState}
use Rattle.rl_steps.specs.Run.{IsRun, state}
use Rattle.rl_safety.specs.Counts.{attempts_of}
use Rattle.rl_safety.specs.Promises.{KeepsPromises}
use Rattle.rl_rule.specs.declared.rails.Rails.{Rails}
use Rattle.rl_rule.specs.Seats.{rails_line, rails_tries}
use Rattle.rl_nodes.specs.declared.parts.Part.{Part}

-- the records and the minds with which the nodes were parted, in order
abbrev pub records_of : List Part → List Record
records_of parts = map (λ part. part.«record») parts

abbrev pub minds_of : List Part → List Mind
minds_of parts = map (λ part. part.mind) parts

-- the events, oldest first, are a run of the line of the rails and the tries of its trains
abbrev pub IsRunOf : Rails → List Event → Type 0
IsRunOf rails events = IsRun (rails_line rails) (rails_tries rails) (reverse events)

-- where the events, oldest first, lead
abbrev pub end_state : Rails → List Event → CoreState
end_state rails events = state (rails_line rails) (rails_tries rails) (reverse events)

-- mind n is that of node n
abbrev pub AreMinds : (ℕ → Mind) → List Mind → Type 0
AreMinds mind_at minds = (n : ℕ) (mind : Mind) → slice_get minds n ≡ Some mind → mind ≡ mind_at n

-- the run keeps what every run promises
abbrev pub RunKeepsPromises : Rails → List Event → Type 0
RunKeepsPromises rails events = KeepsPromises (rails_line rails) (rails_tries rails) (reverse events)

-- the attempts that the trains have opened in this run, and the most that they can open
abbrev pub attempts_in : Rails → List Event → ℕ
attempts_in rails events = attempts_of (rails_line rails) (rails_tries rails) (reverse events)

abbrev pub most_attempts : Rails → ℕ
most_attempts rails = length (rails_line rails).trains * rails_tries rails

-- a node makes only so many events for each attempt, and so do all nodes together
pub record AreFew (attempts : ℕ) (records : List Record) (events : List Event) : Type 0 where
  pub each : All (λ r. length r.events ≤ MAX_ATTEMPT_NODE_EVENTS * attempts) records
  pub all : length events ≤ MAX_ATTEMPT_EVENTS * attempts
  pub fits : IsU32 (MAX_ATTEMPT_EVENTS * attempts)
