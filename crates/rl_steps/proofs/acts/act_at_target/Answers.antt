use Rattle.std.proofs.Common.{◌≡◌, Some, None, option_map, ap, ◌∙◌, sym, arith}
use Rattle.std.proofs.lemmas.Bool.Decides.{nat_tests}
use Rattle.rl_base.specs.declared.ids.WordNo.{WordNo}
use Rattle.rl_steps.specs.Step.{target_of}
use Rattle.rl_steps.proofs.Steady.{elsewhere}
use Rattle.rl_steps.proofs.acts.act_at_target.Goals as goal

pub returns-in_default : goal.returns-in_default
returns-in_default c =
    let none : target_of c.args.line.now c.args.node.0 c.args.mind.now 0 ≡ None =
    sym c.target.ensures.number ∙ ap (option_map (λ (w : WordNo). w.0)) c.in_default.is in
    sym
    (elsewhere c.args.line.now c.args.node.0 c.args.w.0 c.args.payload 0 c.args.mind.now
    (λ new after is. c.steps_at_targets.ensures c.args.line.now c.args.node.0 c.args.w.0 c.args.payload new c.args.mind.now after c.layout-lay.ensures.line
    c.requires.mind is) c.requires.unready (λ is. absurd (cc)))

pub returns-then-ne : goal.returns-then-ne
returns-then-ne c =
    let some : target_of c.args.line.now c.args.node.0 c.args.mind.now 0 ≡ Some c.in-Some.looked.0 =
    sym c.target.ensures.number ∙ ap (option_map (λ (w : WordNo). w.0)) c.in-Some.is in
    let other : c.in-Some.looked.0 ≡ c.args.w.0 → ⊥ = grind (arith, nat_tests, c.if-ne.ensures) in
    sym
    (elsewhere c.args.line.now c.args.node.0 c.args.w.0 c.args.payload 0 c.args.mind.now
    (λ new after is. c.steps_at_targets.ensures c.args.line.now c.args.node.0 c.args.w.0 c.args.payload new c.args.mind.now after c.layout-lay.ensures.line
    c.requires.mind is) c.requires.unready (λ is. other (cc)))
