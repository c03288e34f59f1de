use Rattle.std.proofs.Common.{subst}
use Rattle.rl_base.specs.declared.layout.NodeKind.{NodeKind}
use Rattle.rl_tables.specs.Starts.{layout_of}
use Rattle.rl_steps.specs.Numbers.{node_at}
use Rattle.rl_steps.specs.Sound.{IsMindOf}
use Rattle.rl_steps.proofs.Beginning.{start_minds}
use Rattle.rl_steps.proofs.Keeping.{step_keeps}
use Rattle.rl_steps.proofs.Options.{same_some}
use Rattle.rl_steps.proofs.laws.kept_minds.Goals as goal

pub returns-clause-step : goal.returns-clause-step
returns-clause-step c = λ tables n w payload new mind after line sound step.
    let kept = step_keeps record {
      tables = c.usable_tables.ensures;
      trains = c.train_steps.ensures;
      tracks = c.track_steps.ensures;
      boxes = c.box_steps.ensures;
      machines = c.machine_steps.ensures;
    } tables n w payload mind (new, after) line sound step in
    λ node at. subst (λ (k : NodeKind). IsMindOf tables k after) (same_some (node_at (layout_of tables) n) kept.node node kept.at at) kept.mind

pub returns-clause-start : goal.returns-clause-start
returns-clause-start c = λ tables tries n few node at. start_minds tables tries n node few at
