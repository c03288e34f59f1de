use Rattle.std.proofs.Common.{◌<◌, ap, length, ◌∙◌, arith}
use Rattle.std.proofs.lemmas.List.FromFn.{length-map-range_with_len}
use Rattle.rl_core.specs.Reports.{count_of}
use Rattle.rl_core.proofs.Counting.{count_at}
use Rattle.rl_core.proofs.Fates.{outcomes_more}
use Rattle.rl_core.proofs.reports.outcomes_of.Goals as goal

pub index-requires : goal.index-requires
index-requires c =
    let long = ap (λ cs. length cs) c.in_ok-counts.ensures ∙ length-map-range_with_len (count_of c.args.moves.now) 0 c.layout-trains.result.trains in
    omega arith

pub loop-t-preserved : goal.loop-t-preserved
loop-t-preserved c =
    let count =
    count_at c.args.moves.now c.layout-trains.result.trains c.loop-t.t c.in_ok-counts.counts.items c.index.result.now
    c.loop-t-test.true c.in_ok-counts.ensures c.index.ensures in
    let lay = c.layout-trains.ensures.layout in
    let within : c.loop-t.t < length c.args.minds.now = omega (arith, ap (λ l. l.trains) lay) in
    outcomes_more c.args.line.now c.args.tries c.args.moves.now c.args.minds.now c.loop-t.t _ c.loop-t.outcomes c.push.new.self
    c.train_mind-mind.result c.outcome_of.result within c.loop-t.invariant c.in_ok-push.ensures.ok
    c.train_mind-mind.ensures (c.outcome_of.ensures c.args.moves.now count)
