use denote.Param.Send.{sendable}
use Rattle.std.proofs.Crossing.{crosses}
use Rattle.rl_tables.proofs.line.Line.TheSendSync as line
use Rattle.rl_rule.proofs.seats.NodeSeat.TheSendSync as seat
use Rattle.rl_rule.proofs.Crossing.{rails_sync}
use Rattle.rl_tests_runs.proofs.rails.posts.Goals as goal

pub join-requires-send-F : goal.join-requires-send-F
join-requires-send-F g c = search (sendable, crosses, rails_sync, seat.the_send, line.the_sync) depth 60 fits 20000
