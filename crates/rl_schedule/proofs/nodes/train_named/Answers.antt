use Rattle.std.proofs.Common.{option_map, sym, ap, ◌∙◌}
use Rattle.rl_base.specs.declared.ids.TrainId.{TrainId}
use Rattle.rl_model.specs.declared.network.Train.{Train}
use Rattle.rl_schedule.proofs.Named.{found_at}
use Rattle.rl_schedule.proofs.nodes.train_named.Goals as goal

pub returns-in-Some-clause-number : goal.returns-in-Some-clause-number
returns-in-Some-clause-number c =
    ap (option_map (λ (id : TrainId). id.0)) (sym c.in-Some.is)
    ∙ found_at (λ (id : TrainId). id.0) (λ (r : Train). r.name) c.args.name.now c.args.net.now.trains c.find_train-found.result
    c.layout-layout.ensures.network.train_names c.find_train-found.ensures.some c.find_train-found.ensures.none

pub returns-in_default-clause-number : goal.returns-in_default-clause-number
returns-in_default-clause-number c =
    found_at (λ (id : TrainId). id.0) (λ (r : Train). r.name) c.args.name.now c.args.net.now.trains c.find_train-found.result
    c.layout-layout.ensures.network.train_names c.find_train-found.ensures.some c.find_train-found.ensures.none
