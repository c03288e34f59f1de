use Rattle.std.proofs.Common.{◌≡◌, Some, option_map, ap, ◌∙◌, sym}
use Rattle.rl_base.specs.Layout.{word_number}
use Rattle.rl_tables.specs.Starts.{layout_of}
use Rattle.rl_train.specs.Steps.{train_target}
use Rattle.rl_steps.specs.declared.mind.Mind.TheVariants.{Train}
use Rattle.rl_steps.specs.Step.{as_mind}
use Rattle.rl_steps.proofs.ByKind.{train_target_at}
use Rattle.rl_steps.proofs.FromCalls.{train_acts}
use Rattle.rl_steps.proofs.acts.train_act.Goals as goal

pub act-requires-clause-table : goal.act-requires-clause-table
act-requires-clause-table c =
    c.usable_tables.ensures c.args.line.now c.args.t.0 c.train_table-table.result.now c.layout-lay.ensures.line c.train_table-table.ensures.there

pub act-requires-clause-mind : goal.act-requires-clause-mind
act-requires-clause-mind c = c.requires.mind c.train_table-table.result.now c.train_table-table.ensures.there

pub returns-in_err-payload : goal.returns-in_err-payload
returns-in_err-payload c =
    let target : option_map (word_number (layout_of c.args.line.now)) (train_target c.train_table-table.result.now c.args.mind.now) ≡ Some c.args.w.0 =
    sym (train_target_at c.args.line.now c.args.node.0 c.requires.looks.scan c.args.t c.train_table-table.result.now c.args.mind.now c.requires.at
    c.train_table-table.ensures.there)
    ∙ c.requires.looks.target in
    let step = train_acts c.args.line.now c.args.node.0 c.args.w.0 c.args.payload c.args.t c.train_table-table.result.now c.args.mind.now c.act.result
    c.layout-lay.ensures.line c.requires.at c.train_table-table.ensures.there target c.act.ensures.step in
    c.from_residual.ensures ∙ sym (step ∙ ap (as_mind Train) c.in_err-payload.was)

pub returns : goal.returns
returns c =
    let target : option_map (word_number (layout_of c.args.line.now)) (train_target c.train_table-table.result.now c.args.mind.now) ≡ Some c.args.w.0 =
    sym (train_target_at c.args.line.now c.args.node.0 c.requires.looks.scan c.args.t c.train_table-table.result.now c.args.mind.now c.requires.at
    c.train_table-table.ensures.there)
    ∙ c.requires.looks.target in
    let step = train_acts c.args.line.now c.args.node.0 c.args.w.0 c.args.payload c.args.t c.train_table-table.result.now c.args.mind.now c.act.result
    c.layout-lay.ensures.line c.requires.at c.train_table-table.ensures.there target c.act.ensures.step in
    sym (step ∙ ap (as_mind Train) c.in_ok-payload.was)
