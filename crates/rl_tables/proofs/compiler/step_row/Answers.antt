use Rattle.rl_model.specs.Network.{IsStep}
use Rattle.rl_tables.proofs.Rows.{connected, both_end}
use Rattle.rl_tables.proofs.compiler.step_row.Goals as goal

pub span_from-from-requires-clause-ends : goal.span_from-from-requires-clause-ends
span_from-from-requires-clause-ends c =
    let step : IsStep c.args.net.now c.args.t.0 c.args.k c.route_seg-s.result.0 c.route_box-b.result.0 c.route_seg-s2.result.0 =
    record { from = c.route_seg-s.ensures.value; through = c.route_box-b.ensures.value; to = c.route_seg-s2.ensures.value } in
    (both_end c.args.net.now _ _ _ (connected c.args.net.now c.args.t.0 c.args.k _ _ _ c.requires.network c.requires.there step)).0

pub span_from-to-requires-clause-ends : goal.span_from-to-requires-clause-ends
span_from-to-requires-clause-ends c =
    let step : IsStep c.args.net.now c.args.t.0 c.args.k c.route_seg-s.result.0 c.route_box-b.result.0 c.route_seg-s2.result.0 =
    record { from = c.route_seg-s.ensures.value; through = c.route_box-b.ensures.value; to = c.route_seg-s2.ensures.value } in
    (both_end c.args.net.now _ _ _ (connected c.args.net.now c.args.t.0 c.args.k _ _ _ c.requires.network c.requires.there step)).1
