use Rattle.std.proofs.Common.{ap, ◌∙◌}
use Rattle.std.proofs.lemmas.Bool.{false_from_ne_true}
use Rattle.rl_domain.specs.States.{any_meet}
use Rattle.rl_domain.proofs.Meanings.{iff_at}
use Rattle.rl_domain.proofs.Meetings.{collided_iff}
use Rattle.rl_domain.proofs.world.World.collided.Goals as goal

pub returns-clause-exact : goal.returns-clause-exact
returns-clause-exact c =
    λ net. iff_at _ _ (c.any_meet.ensures ∙ ap any_meet c.standings.ensures) (collided_iff net c.args.self.now)

pub returns-clause-kept : goal.returns-clause-kept
returns-clause-kept c =
    λ net kept.
    let found = iff_at _ _ (c.any_meet.ensures ∙ ap any_meet c.standings.ensures) (collided_iff net c.args.self.now) in
    false_from_ne_true _ (λ is. (c.safe_runs.ensures.safe net _ kept).not_collided (found.0 is))
