use Rattle.std.proofs.Common.{option_map, sym, ap, ◌∙◌}
use Rattle.rl_base.specs.declared.ids.BoxId.{BoxId}
use Rattle.rl_model.specs.declared.network.SwitchBox.{SwitchBox}
use Rattle.rl_schedule.proofs.Named.{found_at}
use Rattle.rl_schedule.proofs.nodes.box_named.Goals as goal

pub returns-in-Some-clause-number : goal.returns-in-Some-clause-number
returns-in-Some-clause-number c =
    ap (option_map (λ (id : BoxId). id.0)) (sym c.in-Some.is)
    ∙ found_at (λ (id : BoxId). id.0) (λ (r : SwitchBox). r.name) c.args.name.now c.args.net.now.boxes c.find_box-found.result
    c.layout-layout.ensures.network.box_names c.find_box-found.ensures.some c.find_box-found.ensures.none

pub returns-in_default-clause-number : goal.returns-in_default-clause-number
returns-in_default-clause-number c =
    found_at (λ (id : BoxId). id.0) (λ (r : SwitchBox). r.name) c.args.name.now c.args.net.now.boxes c.find_box-found.result
    c.layout-layout.ensures.network.box_names c.find_box-found.ensures.some c.find_box-found.ensures.none
