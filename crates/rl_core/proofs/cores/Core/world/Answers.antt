use Rattle.std.proofs.Common.{◌≡◌, IfOk, subst}
use Rattle.rl_model.specs.Safety.{IsKept}
use Rattle.rl_model.specs.World.{World}
use Rattle.rl_steps.specs.State.{CoreState}
use Rattle.rl_domain.specs.Rows.{world_of}
use Rattle.rl_safety.specs.Ranges.{NamesWhatIsThere}
use Rattle.rl_safety.specs.Reading.{read}
use Rattle.rl_safety.specs.World.{world_of_core}
use Rattle.rl_core.proofs.CoreWorlds.{parts_of_core, are_parts}
use Rattle.rl_core.proofs.cores.Core.world.Goals as goal

pub of-requires : goal.of-requires
of-requires c =
    let core = c.args.self.now in
    let net = c.args.net.now in
    let network = c.trains-trains.ensures.network in
    let reached = c.reached.ensures in
    let named = c.worlds_of_runs.ensures.named net core.line core.tries reached.drive.events network c.requires reached.few_tries reached.leads.run in
    let kept = c.worlds_of_runs.ensures.kept net core.line core.tries reached.drive.events network c.requires reached.few_tries reached.leads.run in
    are_parts net core _ _ network c.requires c.in_ok-spots.ensures c.in_ok-boxes.ensures core.tries
    (subst (λ (s : CoreState). NamesWhatIsThere net (read core.line core.tries s)) reached.leads.state named)
    (subst (λ (s : CoreState). IsKept net (world_of_core net core.line s)) reached.leads.state kept)

pub returns-clause-world : goal.returns-clause-world
returns-clause-world c =
    let core = c.args.self.now in
    let net = c.args.net.now in
    let P : World → Type 0 = λ v. IfOk c.of.result (λ w. world_of net w ≡ v) in
    subst P (parts_of_core net core _ _ c.trains-trains.ensures.network c.requires c.in_ok-spots.ensures c.in_ok-boxes.ensures) c.of.ensures.world
