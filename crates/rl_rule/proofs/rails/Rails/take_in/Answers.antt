use Rattle.std.proofs.Common.{arith}
use Rattle.rl_rule.proofs.SeatKeeps.{join_keeps}
use Rattle.rl_rule.proofs.rails.Rails.take_in.Goals as goal

pub join_seat-requires : goal.join_seat-requires
join_seat-requires c =
    let rails = c.args.self.now in
    let node = c.args.seat in (
      rails.own,
      c.requires,
      node.slots,
      omega (arith, rails.words),
      join_keeps rails.table.shared.key.line.value rails.table.shared.key.tries rails.root.id rails.root.me.0 node.seat.id node.seat.me.0 rails.role node.role,
    )
