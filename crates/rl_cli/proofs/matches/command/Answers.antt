use Rattle.std.proofs.Common.{◌∙◌, ap₂, map}
use Rattle.clap.specs.Words.{with_rule}
use Rattle.rl_cli.proofs.AppLemmas.{one_more_positional, one_more_option}
use Rattle.rl_cli.proofs.matches.command.Goals as goal

pub loop-id-preserved : goal.loop-id-preserved
loop-id-preserved c =
    c.in_ok-command.ensures.shape c.new-in-loop-id.ensures.optional.1
    ∙ ap₂ with_rule c.loop-id.invariant c.new-in-loop-id.ensures.rule
    ∙ one_more_positional c.args.positionals.now c.loop-id.id-index _ c.loop-id-test.true

pub loop-flag-preserved : goal.loop-flag-preserved
loop-flag-preserved c =
    c.in_ok-command-2.ensures.shape c.argument.ensures.local
    ∙ ap₂ with_rule c.loop-flag.invariant c.argument.ensures.rule
    ∙ one_more_option (map (λ s. s.now) c.args.positionals.now) c.args.options.now c.loop-flag.flag-index _ c.loop-flag-test.true
