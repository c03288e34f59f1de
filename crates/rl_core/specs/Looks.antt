-- What a node sees where it looks at its target.
use Rattle.std.specs.Prelude.{◌≡◌, ℕ, slice_get, Some, None}
use Rattle.rl_words.specs.Stamps.{payload_in}
use Rattle.rl_tables.specs.declared.table.Tables.{Tables}
use Rattle.rl_record.specs.declared.event.Turn.{Turn}
use Rattle.rl_record.specs.declared.event.Turn.TheVariants as turns
use Rattle.rl_steps.specs.Step.{node_step, target_of}
use Rattle.rl_steps.specs.State.{CoreState}
use Rattle.rl_core.specs.Cores.{Core}
use Rattle.rl_core.specs.Made.{event_in, made}
use Rattle.rl_core.specs.declared.look.Look.{Look}
use Rattle.rl_core.specs.declared.look.Look.TheVariants.{Rests, Idles, Steps}

-- node n looks at word w, whose whole value is this
pub record Sees (tables : Tables) (c : CoreState) (n scan w was : ℕ) : Type 0 where
  pub target : target_of tables n (c.minds n) scan ≡ Some w
  pub word : slice_get c.words w ≡ Some was

-- it rests, has no step on what it sees, or has this one
abbrev pub IsLook : Tables → CoreState → (n scan : ℕ) → Look → Type 0
IsLook tables c n scan Rests = target_of tables n (c.minds n) scan ≡ None
IsLook tables c n scan (Idles w was) =
    Sees tables c n scan w.0 was × (node_step tables n (c.minds n) w.0 (payload_in was) ≡ None)
IsLook tables c n scan (Steps w was payload mind) =
    Sees tables c n scan w.0 was × (node_step tables n (c.minds n) w.0 (payload_in was) ≡ Some (payload, mind))

-- the core after a look, and what the turn then answers
abbrev pub after_look : Core → ℕ → Look → Core
after_look core n Rests = core
after_look core n (Idles w was) = core
after_look core n (Steps w was payload mind) = made core n w.0 was payload mind

abbrev pub answer_to : Core → ℕ → Look → Turn
answer_to core n Rests = turns.Rest
answer_to core n (Idles w was) = turns.Idle was
answer_to core n (Steps w was payload mind) = turns.Moved (event_in core n w.0 was payload)
