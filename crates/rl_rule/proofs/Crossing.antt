-- Rails may be shared among threads: a seat that lies still may be.
use denote.RattleType.{RattleType}
use denote.Param.Send.{IsSend, IsSync, part_keyless, sendable}
use Rattle.std.proofs.Crossing.{crosses}
use Rattle.atomic_table.specs.contracts.shared.Seat as Seat
use Rattle.atomic_table.proofs.shared.Seat.TheSendSync as seat
use Rattle.atomic_table.proofs.shared.Shared.TheSendSync as shared
use Rattle.atomic_table.proofs.send_lease.SendLease.TheSendSync as lease
use Rattle.rl_rule.specs.contracts.rails.Rails as Rails

pub still_seat_sync : (S V : RattleType) → IsSend S → IsSync (Seat.the_row S V)
still_seat_sync S V s = record { shared = λ d b o ν q. part_keyless (Seat.the_row S V) (seat.the_send S V s) q d b o }

pub rails_sync : IsSync Rails.the_row
rails_sync = search (sendable, crosses, still_seat_sync, shared.the_sync, lease.the_sync) depth 20
