use Rattle.std.proofs.Common.{◌≡◌, ℕ, ◌+◌, Some, sym, ap, ◌∙◌, arith}
use Rattle.rl_model.specs.Network.{IsStep, route_segment}
use Rattle.rl_tables.proofs.Rows.{connected, both_end}
use Rattle.rl_tables.proofs.compiler.next_row.Goals as goal

two : (k : ℕ) → k + 1 + 1 ≡ k + 2
two k = omega arith

pub span_from-span-requires-clause-ends : goal.span_from-span-requires-clause-ends
span_from-span-requires-clause-ends c =
    let to : route_segment c.args.net.now c.args.t.0 (c.args.k + 1 + 1) ≡ Some c.route_seg-s3.result.0 =
    ap (route_segment c.args.net.now c.args.t.0) (two c.args.k) ∙ c.route_seg-s3.ensures.value in
    let step : IsStep c.args.net.now c.args.t.0 (c.args.k + 1) c.args.s2.0 c.route_box-b2.result.0 c.route_seg-s3.result.0 =
    record { from = c.requires.to; through = c.route_box-b2.ensures.value; to = to } in
    (both_end c.args.net.now _ _ _ (connected c.args.net.now c.args.t.0 (c.args.k + 1) _ _ _ c.requires.network c.requires.there step)).1
