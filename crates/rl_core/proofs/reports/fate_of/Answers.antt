use Rattle.std.proofs.Common.{sym, ◌∙◌}
use Rattle.rl_core.proofs.Fates.{fate_underway, fate_arrived, fate_spent}
use Rattle.rl_core.proofs.reports.fate_of.Goals as goal

pub returns-then-not-at_rest : goal.returns-then-not-at_rest
returns-then-not-at_rest c =
    fate_underway c.args.line.now c.args.t.0 c.train_table-table.result.now c.args.mind.now c.train_table-table.ensures.there
    (sym (sym c.if-not-at_rest.true ∙ c.at_rest.ensures))

pub returns-then-mind-len : goal.returns-then-mind-len
returns-then-mind-len c =
    fate_arrived c.args.line.now c.args.t.0 c.train_table-table.result.now c.args.mind.now c.train_table-table.ensures.there
    (sym (sym c.if-not-at_rest.false ∙ c.at_rest.ensures))
    (c.if-mind-len.true ∙ c.len.ensures)

pub returns-else-mind-len : goal.returns-else-mind-len
returns-else-mind-len c =
    fate_spent c.args.line.now c.args.t.0 c.train_table-table.result.now c.args.mind.now c.train_table-table.ensures.there
    (sym (sym c.if-not-at_rest.false ∙ c.at_rest.ensures))
    (λ e. c.if-mind-len.false (e ∙ sym c.len.ensures))
