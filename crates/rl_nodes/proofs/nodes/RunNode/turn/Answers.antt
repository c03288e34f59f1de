use Rattle.std.proofs.Common.{◌≡◌, Some, None, option_map, ap, sym, ◌∙◌, subst, arith}
use Rattle.rl_base.specs.declared.ids.WordNo.{WordNo}
use Rattle.rl_base.specs.declared.ids.NodeNo.{NodeNo}
use Rattle.rl_record.specs.declared.event.Turn.TheVariants.{Rest}
use Rattle.rl_steps.specs.Step.{target_of}
use Rattle.rl_rule.specs.Seats.{walk_of}
use Rattle.rl_nodes.specs.Nodes.{Node, node_of}
use Rattle.rl_nodes.specs.Turns.{IsTurn, Idles, Moves}
use Rattle.rl_nodes.specs.declared.look.Look.{Look}
use Rattle.rl_nodes.specs.Looks.{IsLook}
use Rattle.rl_nodes.proofs.Turning.{Parts, rests, idles, moves}
use Rattle.rl_nodes.proofs.nodes.RunNode.turn.Goals as goal

pub returns-in_default : goal.returns-in_default
returns-in_default c =
    let i = c.self.inside in
    let parts : Parts i.rails.now i.line.now i.seat i.mind i.scan i.log =
    record { whole = c.self.invariant; room = omega (arith, c.len.ensures.len, c.len.ensures.within, c.limit.ensures, c.if-len-limit.false) } in
    let target : target_of i.line.now (walk_of i.seat).node.0 i.mind i.scan ≡ None =
    ap (λ (n : NodeNo). target_of i.line.now n.0 i.mind i.scan) (sym c.node-node.ensures) ∙ sym c.target.ensures.number
    ∙ ap (option_map (λ (w : WordNo). w.0)) c.in_default.is in
    subst (λ (old : Node). IsTurn old (node_of i.rails.now i.line.now i.seat i.scan i.log c.one_more-self-inside.result) Rest) c.self.view_is
    (rests i.rails.now i.line.now i.seat i.mind i.scan i.log i.turns c.one_more-self-inside.result parts target c.one_more-self-inside.ensures)

pub returns-in-Left : goal.returns-in-Left
returns-in-Left c =
    let i = c.self.inside in
    let next = c.scan_after-self-inside in
    let parts : Parts i.rails.now i.line.now i.seat i.mind i.scan i.log =
    record { whole = c.self.invariant; room = omega (arith, c.len.ensures.len, c.len.ensures.within, c.limit.ensures, c.if-len-limit.false) } in
    let target : target_of i.line.now (walk_of i.seat).node.0 i.mind i.scan ≡ Some c.in-Some.w.0 =
    ap (λ (n : NodeNo). target_of i.line.now n.0 i.mind i.scan) (sym c.node-node.ensures) ∙ sym c.target.ensures.number
    ∙ ap (option_map (λ (w : WordNo). w.0)) c.in-Some.is in
    let look = subst (λ (l : Look). IsLook i.line.now c.in-Some.w.0 (walk_of i.seat) (walk_of c.look_at.new.seat) l) c.in-Left.is c.look_at.ensures.look in
    subst (λ (old : Node). Idles old (node_of i.rails.now i.line.now c.look_at.new.seat next.result i.log c.one_more-self-inside.result) c.in-Left.value)
    c.self.view_is
    (idles i.rails.now i.line.now i.seat c.look_at.new.seat i.mind i.scan next.result i.log i.turns c.one_more-self-inside.result c.in-Some.w.0 c.in-Left.value
    parts target look next.ensures.place c.one_more-self-inside.ensures)

pub returns-in-Made : goal.returns-in-Made
returns-in-Made c =
    let i = c.self.inside in
    let next = c.scan_after-self-inside in
    let parts : Parts i.rails.now i.line.now i.seat i.mind i.scan i.log =
    record { whole = c.self.invariant; room = omega (arith, c.len.ensures.len, c.len.ensures.within, c.limit.ensures, c.if-len-limit.false) } in
    let target : target_of i.line.now (walk_of i.seat).node.0 i.mind i.scan ≡ Some c.in-Some.w.0 =
    ap (λ (n : NodeNo). target_of i.line.now n.0 i.mind i.scan) (sym c.node-node.ensures) ∙ sym c.target.ensures.number
    ∙ ap (option_map (λ (w : WordNo). w.0)) c.in-Some.is in
    let look = subst (λ (l : Look). IsLook i.line.now c.in-Some.w.0 (walk_of i.seat) (walk_of c.look_at.new.seat) l) c.in-Made.is c.look_at.ensures.look in
    subst (λ (old : Node). Moves old
    (node_of i.rails.now i.line.now c.look_at.new.seat next.result c.push.new.self c.one_more-self-inside.result) c.in-Made.event) c.self.view_is
    (moves i.rails.now i.line.now i.seat c.look_at.new.seat i.mind c.in-Made.mind i.scan next.result i.log c.push.new.self i.turns c.one_more-self-inside.result
    c.in-Some.w.0 c.in-Made.event parts target look next.ensures.place c.push.ensures c.one_more-self-inside.ensures)
