use Rattle.std.proofs.Common.{sym, ap, ◌∙◌}
use Rattle.rl_model.specs.Reports.{refused_in}
use Rattle.rl_protocol.specs.Refusals.{refusals_said}
use Rattle.rl_protocol.specs.TableLine.{line_of}
use Rattle.rl_safety.proofs.laws.counted_refusals.Goals as goal

pub returns : goal.returns
returns c = λ tables tries events t line few run.
    let is = c.steps_of_events.ensures tables tries events line few run in
    ap (λ ms. refused_in ms t) is.moves
    ∙ c.counted_refusals.ensures (line_of tables) tries is.steps t (c.lines_of_tables.ensures.consistent tables line) is.run
    ∙ ap (λ s. refusals_said s t) (sym is.state)
