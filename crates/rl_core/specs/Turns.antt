-- What a turn makes of a core, whatever run led to it.
use Rattle.std.specs.Prelude.{◌≡◌, ℕ, ◌+◌, ◌≤◌}
use Rattle.rl_record.specs.declared.event.Turn.{Turn}
use Rattle.rl_steps.specs.Turn.{Drive, turn_of, answer_of}
use Rattle.rl_core.specs.Cores.{Core, LeadsTo}

-- the new core is the old one after a turn of node n, which came to this: a run that leads to the old one, with the
-- turn of the definition, leads to the new one, and the answer is the definition's. It makes one event at most
pub record IsTurn (old new : Core) (n : ℕ) (says : Turn) : Type 0 where
  pub turned : (d : Drive) → LeadsTo d old → LeadsTo (turn_of old.line old.tries d n) new
  pub answer : (d : Drive) → LeadsTo d old → says ≡ answer_of old.line old.tries d n
  pub line : new.line ≡ old.line
  pub tries : new.tries ≡ old.tries
  pub events : new.events ≤ old.events + 1

-- the same of a turn that makes no event, whatever it answers
pub record IsIdleTurn (old new : Core) (n : ℕ) : Type 0 where
  pub turned : (d : Drive) → LeadsTo d old → LeadsTo (turn_of old.line old.tries d n) new
  pub no_event : (d : Drive) → LeadsTo d old → (turn_of old.line old.tries d n).events ≡ d.events
  pub line : new.line ≡ old.line
  pub tries : new.tries ≡ old.tries
  pub events : new.events ≡ old.events
