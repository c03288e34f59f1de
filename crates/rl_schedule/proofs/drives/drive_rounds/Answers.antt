use Rattle.std.proofs.Common.{◌≡◌, ℕ, ◌+◌, ◌-◌, ◌*◌, ◌<◌, ◌≤◌, List, length, ap, ◌∙◌, arith}
use Rattle.std.specs.List.{repeat, range_with_len}
use Rattle.std.proofs.Math.Nat.{mul-le-mul_right}
use Rattle.std.proofs.lemmas.List.FromFn.{length-range_with_len}
use Rattle.rl_base.specs.Layout.{node_count}
use Rattle.rl_tables.specs.Starts.{layout_of}
use Rattle.rl_schedule.specs.Driven.{GoesOn, BreaksOff}
use Rattle.rl_schedule.proofs.Driving.{goes_more, breaks_among, at_error}
use Rattle.rl_schedule.proofs.Pieces.{repeat_next, repeat_more, length_repeat}
use Rattle.rl_schedule.proofs.drives.drive_rounds.Goals as goal

-- one round more fits where all of them do
fits : (nodes i count events first limit : ℕ) → events ≤ first + length (repeat i (range_with_len 0 nodes)) → i < count → first + count * nodes ≤ limit
    → events + nodes ≤ limit
fits nodes i count events first limit so_far below all =
    let each : length (repeat i (range_with_len 0 nodes)) ≡ i * nodes =
    length_repeat (range_with_len 0 nodes) i ∙ ap (λ n. i * n) (length-range_with_len 0 nodes) in
    let next : i + 1 ≤ count = omega arith in
    let within : (i + 1) * nodes ≤ count * nodes = mul-le-mul_right nodes next in
    omega arith

pub drive_round-requires : goal.drive_round-requires
drive_round-requires c =
    record {
      few = rw c.loop-i.invariant.line
          (fits (node_count (layout_of c.args.core.now.line)) c.loop-i.i c.args.count c.loop-i.core.events c.args.core.now.events 4294967295
          c.loop-i.invariant.events c.loop-i-test.true c.requires.few);
    }

pub returns-in_err-drive_round-clause-err : goal.returns-in_err-drive_round-clause-err
returns-in_err-drive_round-clause-err c =
    let round : List ℕ = range_with_len 0 (node_count (layout_of c.args.core.now.line)) in
    let broken : BreaksOff c.loop-i.core c.loop-i.moves.items round c.drive_round.new.core = rw (← c.loop-i.invariant.line) c.in_err-drive_round.ensures.err in
    at_error c.from_residual.result
    (breaks_among (repeat c.args.count round) (repeat (c.args.count - (c.loop-i.i + 1)) round) c.loop-i.invariant broken
    (repeat_next round c.loop-i.i c.args.count c.loop-i-test.true))

pub loop-i-preserved : goal.loop-i-preserved
loop-i-preserved c =
    let round : List ℕ = range_with_len 0 (node_count (layout_of c.args.core.now.line)) in
    let next : GoesOn c.loop-i.core c.loop-i.moves.items round c.drive_round.new.core c.drive_round.new.moves.items =
    rw (← c.loop-i.invariant.line) c.in_ok-drive_round.ensures.ok in
    rw (← repeat_more round c.loop-i.i) (goes_more c.loop-i.invariant next)
