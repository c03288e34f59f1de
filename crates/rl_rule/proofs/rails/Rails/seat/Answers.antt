use Rattle.std.proofs.Common.{◌<◌, sym, subst, arith}
use Rattle.rl_base.specs.Layout.{node_count}
use Rattle.rl_tables.specs.declared.table.Tables.{Tables}
use Rattle.rl_tables.specs.Starts.{layout_of}
use Rattle.rl_rule.proofs.SeatKeeps.{split_keeps}
use Rattle.rl_rule.proofs.rails.Rails.seat.Goals as goal

pub split_seat-seat-requires : goal.split_seat-seat-requires
split_seat-seat-requires c =
    let rails = c.args.self.now in
    let room : rails.root.me.0.handed < node_count (layout_of rails.root.me.0.line) = omega (arith, c.requires.next, c.requires.there) in (
      rails.own,
      omega (arith, rails.words),
      split_keeps rails.table.shared.key.line.value rails.table.shared.key.tries rails.root.id rails.root.me.0 rails.role
          (subst (λ (t : Tables). rails.root.me.0.handed < node_count (layout_of t)) (sym rails.line) room),
    )
