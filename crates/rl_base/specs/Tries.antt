-- How many attempts a train may be given.
use Rattle.std.specs.Prelude.{ℕ, ◌≤◌}
use Rattle.rl_base.specs.declared.limits.TheConstants.{MAX_TRIES}

-- no more attempts than a train may be given
abbrev pub AreFewTries : ℕ → Type 0
AreFewTries tries = tries ≤ MAX_TRIES
