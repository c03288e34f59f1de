use Rattle.std.proofs.Common.{◌++◌, codes, sym, ap, ◌∙◌}
use Rattle.rl_schedule.specs.Given.{line_of}
use Rattle.rl_schedule.proofs.PlainTurns.{plain_item}
use Rattle.rl_schedule.proofs.plain.plain_turn.Goals as goal

pub returns-clause-item : goal.returns-clause-item
returns-clause-item c =
    plain_item c.args.net.now c.layout-layout.ensures.network c.args.line.now.number (line_of c.args.line.now) c.in_ok-role.role c.in_ok-role.name.now
    c.in_ok-node.node c.if-not-line.false (c.in_ok-word.ensures ∙ ap (λ word. codes "turn " ++ word) c.in_ok-role.ensures) (sym c.in_ok-node.ensures.number)
