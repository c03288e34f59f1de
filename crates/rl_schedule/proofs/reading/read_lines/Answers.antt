use Rattle.std.proofs.Common.{◌≡◌, ◌∷◌, [], ◌+◌, length, Ok, sym, ap, ◌∙◌, arith}
use Rattle.std.proofs.lemmas.List.{length-append}
use Rattle.std.proofs.lemmas.List.Elements.{All-push}
use Rattle.std.proofs.lemmas.List.Sums.{sum_by_push}
use Rattle.rl_schedule.specs.Given.{line_of}
use Rattle.rl_schedule.specs.Readings.{item_in, items_after, nodes_of}
use Rattle.rl_schedule.specs.Turns.{HasNode, turn_count}
use Rattle.rl_schedule.proofs.Read.{item_read}
use Rattle.rl_schedule.proofs.reading.read_lines.Goals as goal

pub loop-line-preserved : goal.loop-line-preserved
loop-line-preserved c =
    let number : c.in-Some.line.number ≡ length c.loop-line.items + 1 = omega (arith, c.in-Some.ensures.number, c.loop-line.invariant.given) in
    let said : item_in c.args.net.now c.loop-line.items (line_of c.in-Some.line) ≡ Ok c.in_ok-item.item =
    sym (c.in_ok-item.ensures.item c.loop-line.items c.loop-line.invariant.turns number) in
    rw c.in_ok-push.ensures.ok
    (record {
      answer =
          c.loop-line.invariant.answer ∙ ap (items_after c.args.net.now c.loop-line.items) c.in-Some.ensures.first
          ∙ item_read c.args.net.now c.loop-line.items (line_of c.in-Some.line) c.line.new.self.left c.in_ok-item.item said;
      turns = omega (
        arith,
        sum_by_push
            (turn_count (nodes_of c.args.net.now)) c.loop-line.items c.in_ok-item.item,
        c.loop-line.invariant.turns,
        c.count_turns-turns.ensures,
      );
      few = omega (arith, c.in_ok-item.ensures.few, c.count_turns-turns.ensures);
      given = omega (arith, c.in-Some.ensures.counted, number, length-append c.loop-line.items (c.in_ok-item.item ∷ []));
      there = All-push (HasNode (nodes_of c.args.net.now)) c.loop-line.items c.in_ok-item.item c.loop-line.invariant.there c.in_ok-item.ensures.within;
    })
