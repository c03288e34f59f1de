use Rattle.std.proofs.Common.{◌≡◌, ℕ, ◌+◌, ◌-◌, ◌<◌, [], ◌∷◌, arith}
use Rattle.std.specs.List.{range_with_len}
use Rattle.std.proofs.lemmas.List.FromFn.{length-range_with_len}
use Rattle.rl_base.specs.Layout.{node_count}
use Rattle.rl_tables.specs.Starts.{layout_of}
use Rattle.rl_schedule.proofs.Driving.{goes_more, breaks_now, breaks_among, at_error}
use Rattle.rl_schedule.proofs.Pieces.{range_next, range_more}
use Rattle.rl_schedule.proofs.drives.drive_round.Goals as goal

pub drive_turn-requires-clause-few : goal.drive_turn-requires-clause-few
drive_turn-requires-clause-few c = omega (arith, c.loop-n.invariant.events, length-range_with_len 0 c.loop-n.n)

pub returns-in_err-drive_turn-clause-err : goal.returns-in_err-drive_turn-clause-err
returns-in_err-drive_turn-clause-err c =
    let nodes : ℕ = node_count (layout_of c.args.core.now.line) in
    let below : c.loop-n.n < nodes = omega arith in
    at_error c.from_residual.result
    (rw c.in_err-drive_turn.ensures.err
    (breaks_among (range_with_len 0 nodes) (range_with_len (c.loop-n.n + 1) (nodes - (c.loop-n.n + 1))) c.loop-n.invariant
    (breaks_now c.loop-n.core c.loop-n.moves.items (c.loop-n.n ∷ [])) (range_next c.loop-n.n nodes below)))

pub loop-n-preserved : goal.loop-n-preserved
loop-n-preserved c = rw (← range_more c.loop-n.n) (goes_more c.loop-n.invariant c.in_ok-drive_turn.ensures.ok)

pub returns-clause-ok : goal.returns-clause-ok
returns-clause-ok c =
    let all : node_count (layout_of c.args.core.now.line) ≡ c.loop-n.n = omega arith in
    rw all c.loop-n.invariant
