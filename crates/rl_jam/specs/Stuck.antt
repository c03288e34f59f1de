-- How a train of a jam stands in the end.
use Rattle.std.specs.Prelude.{◌≡◌, ℕ, ◌+◌, ◌<◌}
use Rattle.rl_model.specs.declared.network.NetworkPlan.{NetworkPlan}
use Rattle.rl_model.specs.declared.report.Report.{Report}
use Rattle.rl_model.specs.Network.{steps_of}
use Rattle.rl_model.specs.Reports.{Rests, made_in, refused_in}
use Rattle.rl_model.specs.Safety.{world_after}

-- train t rests: it isn't across a box, holds its own segment at both ends and nothing else, and has no lock. It has
-- steps of its route left, and each of its attempts was a step or a refusal
pub record IsStuck (net : NetworkPlan) (report : Report) (t : ℕ) : Type 0 where
  pub rests : Rests net (world_after net report.moves) t
  pub before_its_end : made_in report.moves t < steps_of net t
  pub attempts : made_in report.moves t + refused_in report.moves t ≡ report.tries
