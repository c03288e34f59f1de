use Rattle.std.proofs.Common.{◌≡◌, Some, ap, ◌∙◌, sym, subst, slice_get}
use Rattle.rl_base.specs.declared.layout.Layout.{Layout}
use Rattle.rl_base.specs.declared.layout.WordKind.{WordKind}
use Rattle.rl_base.specs.Layout.{word_number, HasWord}
use Rattle.rl_tables.specs.Starts.{layout_of}
use Rattle.rl_steps.specs.declared.mind.Mind.TheVariants.{Box}
use Rattle.rl_steps.specs.Step.{as_mind}
use Rattle.rl_box.specs.Steps.{box_step}
use Rattle.rl_steps.proofs.Acting.{box_on}
use Rattle.rl_steps.proofs.acts.box_act.Goals as goal

pub act-requires-clause-mind : goal.act-requires-clause-mind
act-requires-clause-mind c =
    let lay : c.layout-lay.result ≡ layout_of c.args.line.now = c.layout-lay.ensures.layout in
    let there : slice_get c.args.line.now.boxes c.args.b.0 ≡ Some c.box_table-table.result.now = c.box_table-table.ensures.there in
    rw lay (c.requires.mind c.box_table-table.result.now there)

pub returns-in_err-payload : goal.returns-in_err-payload
returns-in_err-payload c =
    let lay : c.layout-lay.result ≡ layout_of c.args.line.now = c.layout-lay.ensures.layout in
    let there : slice_get c.args.line.now.boxes c.args.b.0 ≡ Some c.box_table-table.result.now = c.box_table-table.ensures.there in
    let P : Layout → Type 0 = λ l. (kind : WordKind) → HasWord l kind → word_number l kind ≡ c.args.w.0
    → c.act.result ≡ box_step c.box_table-table.result.now c.args.mind.now kind c.args.payload in
    let by : P (layout_of c.args.line.now) = subst P lay c.act.ensures.step in
    let step = box_on c.args.line.now c.args.node.0 c.args.w.0 c.args.payload c.args.b c.box_table-table.result.now c.args.mind.now c.act.result c.requires.at
    there c.requires.word by in
    c.from_residual.ensures ∙ sym (step ∙ ap (as_mind Box) c.in_err-payload.was)

pub returns : goal.returns
returns c =
    let lay : c.layout-lay.result ≡ layout_of c.args.line.now = c.layout-lay.ensures.layout in
    let there : slice_get c.args.line.now.boxes c.args.b.0 ≡ Some c.box_table-table.result.now = c.box_table-table.ensures.there in
    let P : Layout → Type 0 = λ l. (kind : WordKind) → HasWord l kind → word_number l kind ≡ c.args.w.0
    → c.act.result ≡ box_step c.box_table-table.result.now c.args.mind.now kind c.args.payload in
    let by : P (layout_of c.args.line.now) = subst P lay c.act.ensures.step in
    let step = box_on c.args.line.now c.args.node.0 c.args.w.0 c.args.payload c.args.b c.box_table-table.result.now c.args.mind.now c.act.result c.requires.at
    there c.requires.word by in
    sym (step ∙ ap (as_mind Box) c.in_ok-payload.was)
