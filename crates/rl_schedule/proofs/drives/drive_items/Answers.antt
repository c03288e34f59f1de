use Rattle.std.proofs.Common.{ℕ, ◌+◌, ◌≤◌, drop, take, length, arith}
use Rattle.rl_base.specs.Layout.{node_count}
use Rattle.rl_tables.specs.Starts.{layout_of}
use Rattle.rl_schedule.specs.Driven.{GoesOn, BreaksOff}
use Rattle.rl_schedule.specs.Turns.{turns_of, turns_in, turn_count, turns_together}
use Rattle.rl_schedule.proofs.Driving.{goes_more, breaks_among, at_error}
use Rattle.rl_schedule.proofs.Pieces.{turns_next, turns_more, turns_within}
use Rattle.rl_schedule.proofs.drives.drive_items.Goals as goal

pub drive_item-requires-clause-few : goal.drive_item-requires-clause-few
drive_item-requires-clause-few c =
    let nodes : ℕ = node_count (layout_of c.args.core.now.line) in
    let within : length (turns_of nodes (take c.loop-i.i c.args.schedule.now)) + turn_count nodes c.item.result ≤ turns_together nodes c.args.schedule.now =
    turns_within nodes c.args.schedule.now c.loop-i.i c.item.result c.item.ensures in
    rw c.loop-i.invariant.line (omega (arith, c.loop-i.invariant.events, within, c.requires.few))

pub returns-in_err-drive_item-clause-err : goal.returns-in_err-drive_item-clause-err
returns-in_err-drive_item-clause-err c =
    let nodes : ℕ = node_count (layout_of c.args.core.now.line) in
    let broken : BreaksOff c.loop-i.core c.loop-i.moves.items (turns_in nodes c.item.result) c.drive_item.new.core =
    rw (← c.loop-i.invariant.line) c.in_err-drive_item.ensures.err in
    at_error c.from_residual.result
    (breaks_among (turns_of nodes c.args.schedule.now) (turns_of nodes (drop (c.loop-i.i + 1) c.args.schedule.now)) c.loop-i.invariant broken
    (turns_next nodes c.args.schedule.now c.loop-i.i c.item.result c.item.ensures))

pub loop-i-preserved : goal.loop-i-preserved
loop-i-preserved c =
    let nodes : ℕ = node_count (layout_of c.args.core.now.line) in
    let next : GoesOn c.loop-i.core c.loop-i.moves.items (turns_in nodes c.item.result) c.drive_item.new.core c.drive_item.new.moves.items =
    rw (← c.loop-i.invariant.line) c.in_ok-drive_item.ensures.ok in
    rw (← turns_more nodes c.args.schedule.now c.loop-i.i c.item.result c.item.ensures) (goes_more c.loop-i.invariant next)
