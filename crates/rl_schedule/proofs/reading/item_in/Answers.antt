use Rattle.std.proofs.Common.{◌<◌, ◌≤◌, ◌+◌, sym, ◌∙◌, arith}
use Rattle.std.proofs.lemmas.Result.{err_from_is_err_and}
use Rattle.rl_base.specs.declared.limits.TheConstants.{MAX_TURNS}
use Rattle.rl_schedule.specs.Given.{line_of}
use Rattle.rl_schedule.specs.Readings.{nodes_of}
use Rattle.rl_schedule.specs.Turns.{turn_count, turns_together}
use Rattle.rl_schedule.proofs.Read.{item_behind, refusal_behind, if_over, if_within}
use Rattle.rl_schedule.proofs.reading.item_in.Goals as goal

pub returns-in_err-item-clause-item : goal.returns-in_err-item-clause-item
returns-in_err-item-clause-item c =
    let p = err_from_is_err_and c.from_residual.result c.from_residual.ensures.1 in
    λ items turns number.
    rw (p.1, p.2)
    (sym (refusal_behind c.args.net.now items c.args.line.now.number (line_of c.args.line.now) c.in_err-item.field-0.0 number (sym c.in_err-item.ensures.item)))

pub returns-then-count_turns-turns-clause-item : goal.returns-then-count_turns-turns-clause-item
returns-then-count_turns-turns-clause-item c =
    λ items turns number.
    let over : MAX_TURNS < turns_together (nodes_of c.args.net.now) items + turn_count (nodes_of c.args.net.now) c.in_ok-item.item =
    omega (arith, turns, c.count_turns.ensures, c.if-count_turns-turns.true) in
    sym (item_behind c.args.net.now items c.args.line.now.number (line_of c.args.line.now) c.in_ok-item.item number (sym c.in_ok-item.ensures.item)
    ∙ if_over c.args.net.now items c.args.line.now.number c.in_ok-item.item number over)

pub returns-clause-item : goal.returns-clause-item
returns-clause-item c =
    λ items turns number.
    let few : turns_together (nodes_of c.args.net.now) items + turn_count (nodes_of c.args.net.now) c.in_ok-item.item ≤ MAX_TURNS =
    omega (arith, turns, c.count_turns.ensures, c.if-count_turns-turns.false) in
    sym (item_behind c.args.net.now items c.args.line.now.number (line_of c.args.line.now) c.in_ok-item.item number (sym c.in_ok-item.ensures.item)
    ∙ if_within c.args.net.now items c.in_ok-item.item few)
