use Rattle.std.proofs.Common.{◌≡◌, ap, length, arith}
use Rattle.rl_base.specs.declared.layout.Layout.{Layout}
use Rattle.rl_steps.proofs.Finding.{train_here, track_here, box_here, machine_here}
use Rattle.rl_steps.proofs.who.identify.Goals as goal

pub overflow_sub-result : goal.overflow_sub-result
overflow_sub-result c =
    rw c.layout-lay.ensures.layout (track_here c.args.line.now c.args.node.0 c.args.mind.now c.in-Track.m c.requires.there c.requires.mind c.in-Track.is).0

pub overflow_sub-result-in-Box : goal.overflow_sub-result-in-Box
overflow_sub-result-in-Box c =
    rw c.layout-lay.ensures.layout (box_here c.args.line.now c.args.node.0 c.args.mind.now c.in-Box.m c.requires.there c.requires.mind c.in-Box.is).0

pub returns-in-Train : goal.returns-in-Train
returns-in-Train c = train_here c.args.line.now c.args.node.0 c.args.mind.now c.in-Train.m c.requires.there c.requires.mind c.in-Train.is

pub returns-in-Track : goal.returns-in-Track
returns-in-Track c =
    rw c.layout-lay.ensures.layout (track_here c.args.line.now c.args.node.0 c.args.mind.now c.in-Track.m c.requires.there c.requires.mind c.in-Track.is).1

pub returns-in-Box : goal.returns-in-Box
returns-in-Box c =
    rw c.layout-lay.ensures.layout (box_here c.args.line.now c.args.node.0 c.args.mind.now c.in-Box.m c.requires.there c.requires.mind c.in-Box.is).1

pub returns-in-Machine : goal.returns-in-Machine
returns-in-Machine c =
    rw c.layout-lay.ensures.layout
    (machine_here c.args.line.now c.args.node.0 c.args.mind.now c.in-Machine.m c.requires.there c.requires.mind c.in-Machine.is).1

pub overflow_sub-result-in-Machine : goal.overflow_sub-result-in-Machine
overflow_sub-result-in-Machine c =
    let low = (machine_here c.args.line.now c.args.node.0 c.args.mind.now c.in-Machine.m c.requires.there c.requires.mind c.in-Machine.is).0 in
    let trains : c.layout-lay.result.trains ≡ length c.args.line.now.trains = ap (λ (l : Layout). l.trains) c.layout-lay.ensures.layout in
    omega arith

pub overflow_sub-result-in-Machine-2 : goal.overflow_sub-result-in-Machine-2
overflow_sub-result-in-Machine-2 c =
    let low = (machine_here c.args.line.now c.args.node.0 c.args.mind.now c.in-Machine.m c.requires.there c.requires.mind c.in-Machine.is).0 in
    let trains : c.layout-lay.result.trains ≡ length c.args.line.now.trains = ap (λ (l : Layout). l.trains) c.layout-lay.ensures.layout in
    let boxes : c.layout-lay.result.boxes ≡ length c.args.line.now.boxes = ap (λ (l : Layout). l.boxes) c.layout-lay.ensures.layout in
    omega arith
