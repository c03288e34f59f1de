use Rattle.std.proofs.Common.{◌≡◌, ◌∙◌, ap, sym, Option, Some, None, option_map, IfSome, refl}
use Rattle.rl_base.specs.declared.ids.WordNo.{WordNo}
use Rattle.rl_steps.specs.Step.{LooksAt}
use Rattle.rl_steps.proofs.Steady.{steady}
use Rattle.rl_steps.proofs.targets.target.Goals as goal

pub returns-clause-looks : goal.returns-clause-looks
returns-clause-looks c = by c.target_by_kind.result refl
  where
    by : (o : Option WordNo) → c.target_by_kind.result ≡ o → IfSome o (λ w. LooksAt c.args.line.now c.args.node.0 c.args.mind.now w.0)
    by None is = tt
    by (Some w) is = record {
      scan = c.args.scan;
      within = c.requires.scan;
      target = sym c.target_by_kind.ensures.number ∙ ap (option_map (λ (w : WordNo). w.0)) is;
    }

pub returns-clause-steady : goal.returns-clause-steady
returns-clause-steady c = λ unready place.
    c.target_by_kind.ensures.number ∙ steady c.args.line.now c.args.node.0 c.args.mind.now c.args.scan place unready
