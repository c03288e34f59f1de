-- The numbers of an order are within the limits of the table.
use Rattle.std.specs.Prelude.{ℕ, ◌≤◌, IfSome}
use Rattle.rl_cli.specs.declared.order.Order.{Order}
use Rattle.rl_cli.specs.declared.order.Order.TheVariants.{Rounds, Drive, Run, Make}
use Rattle.rl_base.specs.declared.limits.TheConstants.{MIN_TRIES, MAX_TRIES, MIN_ROUND, MAX_ROUND}
use Rattle.rl_base.specs.declared.limits.TheConstants.{MAX_ROUNDS, MAX_WORKERS, MAX_MAKE}

-- a number is in a range
pub record IsFrom (least most n : ℕ) : Type 0 where
  pub low : least ≤ n
  pub high : n ≤ most

abbrev pub AreSomeTries : ℕ → Type 0
AreSomeTries tries = IsFrom MIN_TRIES MAX_TRIES tries

-- each number of the order is one that may be asked for
abbrev pub IsWithinLimits : Order → Type 0
IsWithinLimits (Rounds net rounds tries) = (rounds ≤ MAX_ROUNDS) × AreSomeTries tries
IsWithinLimits (Drive net schedule tries) = AreSomeTries tries
IsWithinLimits (Run net tries workers round) =
    AreSomeTries tries × IfSome workers (IsFrom 1 MAX_WORKERS) × IsFrom MIN_ROUND MAX_ROUND round
IsWithinLimits (Make n) = IsFrom 1 MAX_MAKE n
IsWithinLimits _ = Unit {0}
