use Rattle.std.proofs.Common.{◌≡◌, map, take, []}
use Rattle.clap.specs.Words.{app_of}
use Rattle.rl_cli.specs.Apps.{app_with}
use Rattle.rl_cli.proofs.matches.command.Given as goal

abbrev pub invariant-loop-id : goal.invariant-loop-id
invariant-loop-id l = app_of l.command ≡ app_with (map (λ s. s.now) (take l.id-index l.positionals)) []

abbrev pub invariant-loop-flag : goal.invariant-loop-flag
invariant-loop-flag l = app_of l.command ≡ app_with (map (λ s. s.now) l.positionals) (take l.flag-index l.options)
