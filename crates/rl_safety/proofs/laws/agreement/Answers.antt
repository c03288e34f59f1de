use Rattle.std.proofs.Common.{sym, subst}
use Rattle.rl_protocol.specs.Agreement.{Agrees}
use Rattle.rl_protocol.specs.TableLine.{line_of}
use Rattle.rl_safety.proofs.laws.agreement.Goals as goal

pub returns : goal.returns
returns c = λ tables tries events line few run.
    let is = c.steps_of_events.ensures tables tries events line few run in
    subst (Agrees (line_of tables) tries) (sym is.state)
    (c.agreement.ensures.runs (line_of tables) tries is.steps (c.lines_of_tables.ensures.consistent tables line) is.run)
