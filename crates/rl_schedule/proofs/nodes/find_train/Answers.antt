use Rattle.std.proofs.Common.{◌≡◌, false, sym, ◌∙◌}
use Rattle.rl_base.specs.Name.{is_name}
use Rattle.rl_schedule.proofs.PlainTurns.{no_train}
use Rattle.rl_schedule.proofs.nodes.find_train.Goals as goal

pub returns-else-name_ok-clause-none : goal.returns-else-name_ok-clause-none
returns-else-name_ok-clause-none c =
    let not_one : is_name c.args.name.now ≡ false = sym c.name_ok.ensures ∙ c.if-name_ok.false in
    no_train c.args.net.now c.layout-layout.ensures.network c.args.name.now not_one
