use Rattle.std.proofs.Common.{◌≡◌, ℕ, ◌∙◌, Option, Some, sym, ap, subst}
use Rattle.rl_base.specs.declared.ids.NodeNo.{NodeNo}
use Rattle.rl_words.specs.Stamps.{payload_in}
use Rattle.rl_steps.specs.declared.mind.Mind.{Mind}
use Rattle.rl_steps.specs.Step.{node_step}
use Rattle.rl_rule.specs.declared.views.Walk.{Walk}
use Rattle.rl_rule.specs.Seats.{walk_of}
use Rattle.rl_tests_runs.proofs.rails.turn_on.Goals as goal

pub returns-clause-formed : goal.returns-clause-formed
returns-clause-formed c =
    let old = walk_of c.args.seat.now in
    let node : c.node.result ≡ old.node = c.node.ensures ∙ ap (λ (w : Walk). w.node) c.load-value.ensures.walk in
    let P : NodeNo → Type 0 = λ n. c.act_anywhere.result ≡ node_step c.args.line.now n.0 c.args.mind.now c.args.w.0 c.payload_of.result in
    let step : c.act_anywhere.result ≡ node_step c.args.line.now old.node.0 c.args.mind.now c.args.w.0 c.payload_of.result =
    subst P node c.act_anywhere.ensures in
    c.kept_minds.ensures.step c.args.line.now old.node.0 c.args.w.0 c.payload_of.result c.in_ok-payload.payload c.args.mind.now c.in_ok-payload.after
    c.layout-lay.ensures.line c.requires.formed
    (sym step ∙ c.in_ok-payload.was)
