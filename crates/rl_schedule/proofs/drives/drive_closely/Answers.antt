use Rattle.std.proofs.Common.{[], ◌∷◌, ◌++◌, Some, None, sym, ap, ◌∙◌}
use Rattle.std.proofs.lemmas.List.{append-nil}
use Rattle.rl_schedule.proofs.Driving.{on_line, goes_put}
use Rattle.rl_schedule.proofs.drives.drive_closely.Goals as goal

pub move_in-requires : goal.move_in-requires
move_in-requires c = on_line c.args.core.now c.turn_closely-turn.new.self c.args.node.0 c.turn_closely-turn.result c.line.result.now c.reached.ensures
    c.turn_closely-turn.ensures.turn.answer c.turn_closely-turn.ensures.turn.line c.line.ensures

pub returns-in-Some-clause-ok : goal.returns-in-Some-clause-ok
returns-in-Some-clause-ok c =
    goes_put c.args.core.now c.turn_closely-turn.new.self c.args.node.0 c.turn_closely-turn.result c.line.result.now c.args.moves.now.items c.push_reserved.new.self.items
    (Some c.in-Some.m)
    c.reached.ensures c.turn_closely-turn.ensures.turn.turned c.turn_closely-turn.ensures.turn.answer c.turn_closely-turn.ensures.turn.line c.turn_closely-turn.ensures.turn.tries c.line.ensures
    (sym c.in-Some.is ∙ c.move_in.ensures) (c.push_reserved.ensures.items ∙ ap (λ l. l ++ c.in-Some.m ∷ []) c.reserve.ensures.items)

pub returns-in_default-clause-ok : goal.returns-in_default-clause-ok
returns-in_default-clause-ok c =
    goes_put c.args.core.now c.turn_closely-turn.new.self c.args.node.0 c.turn_closely-turn.result c.line.result.now c.args.moves.now.items c.reserve.new.self.items None
    c.reached.ensures c.turn_closely-turn.ensures.turn.turned c.turn_closely-turn.ensures.turn.answer c.turn_closely-turn.ensures.turn.line c.turn_closely-turn.ensures.turn.tries c.line.ensures
    (sym c.in_default.is ∙ c.move_in.ensures) (c.reserve.ensures.items ∙ sym (append-nil c.args.moves.now.items))
