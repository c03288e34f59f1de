-- A node may go to another thread: its seat may, and the rails and the line that it borrows may be shared. A call that
-- hands nodes to threads is answered by `search sent depth 60 fits 20000`.
use denote.Param.Send.{sendable}
use Rattle.std.proofs.Crossing.{crosses}
use Rattle.rl_tables.proofs.line.Line.TheSendSync as line
use Rattle.rl_rule.proofs.seats.NodeSeat.TheSendSync as seat
use Rattle.rl_rule.proofs.Crossing.{rails_sync}

pub ruleset sent = (sendable, crosses, rails_sync, seat.the_field_send, line.the_sync)
