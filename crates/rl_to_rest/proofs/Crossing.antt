-- A node may go to another thread: its seat may, and the rails and the line that it borrows may be shared.
use denote.Param.Send.{IsSend, IsSync, sendable, view_send}
use denote.Param.SendFields.{declared_send, as_row_send}
use denote.Ref.{NamedLft}
use Rattle.std.proofs.Crossing.{crosses}
use Rattle.rl_nodes.specs.contracts.nodes.RunNode as node
use Rattle.rl_nodes.specs.contracts.nodes.RunNode.TheInside as inside
use Rattle.rl_record.specs.contracts.record.Record as log_type
use Rattle.rl_rule.specs.contracts.seats.NodeSeat as seat_type
use Rattle.rl_steps.specs.contracts.mind.Mind as mind_type
use Rattle.rl_tables.specs.contracts.line.Line as line_type
use Rattle.rl_record.proofs.record.Record.TheSendSync as log
use Rattle.rl_rule.proofs.Crossing.{rails_sync}
use Rattle.rl_rule.proofs.seats.NodeSeat.TheSendSync as seat
use Rattle.rl_steps.proofs.mind.Mind.TheSendSync as mind
use Rattle.rl_tables.proofs.line.Line.TheSendSync as line

log_send : IsSend log_type.the_row
log_send = search (sendable, crosses, log.the_send) depth 60 fits 20000

seat_send : IsSend seat_type.the_row
seat_send = search (sendable, crosses, seat.the_send) depth 60 fits 20000

mind_send : IsSend mind_type.the_row
mind_send = search (sendable, crosses, mind.the_send) depth 60 fits 20000

line_sync : IsSync line_type.the_row
line_sync = search (sendable, crosses, line.the_sync) depth 60 fits 20000

-- its fields, in order
node_inside : (l : NamedLft) → IsSend (inside.the_row l)
node_inside l =
    declared_send (inside.the_type l) (
      search (sendable, as_row_send, rails_sync) depth 30,
      (
        search (sendable, as_row_send, line_sync) depth 30,
        (
          search (sendable, seat_send) depth 30,
          (
            search (sendable, mind_send) depth 30,
            (
              search (sendable, as_row_send) depth 30,
              (search (sendable, log_send) depth 30, (search (sendable, as_row_send) depth 30, tt)),
            ),
          ),
        ),
      ),
    )

pub node_send : (l : NamedLft) → IsSend (node.the_row l)
node_send l = view_send _ _ _ _ _ (node_inside l)
