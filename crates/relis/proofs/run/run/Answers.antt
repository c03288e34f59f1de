use Rattle.std.proofs.Common.{[], Ok, refl}
use Rattle.rl_cli.specs.declared.order.Order.TheVariants.{Run}
use Rattle.relis.specs.Answers.{EndsAs}
use Rattle.relis.proofs.Ends.{alone, passed_end, stopped}
use Rattle.relis.proofs.run.run.Goals as goal

pub returns-in_err-net-clause-ends : goal.returns-in_err-net-clause-ends
returns-in_err-net-clause-ends g c =
    let held = g.F.Files.held c.args.files.now in
    let before = g.F.Files.faults c.args.files.now in
    let now = g.F.Files.faults c.read_network.new.files in
    let name = c.args.net.now in
    let order = Run name c.args.options.tries c.args.options.workers c.args.options.round in
    let answer = c.in_err-net.field-0.0 in
    passed_end (EndsAs order held before now) c.from_residual.result answer c.from_residual.ensures.1
    (stopped order name [] held before now answer refl c.in_err-net.ensures.refused)

pub returns-clause-ends : goal.returns-clause-ends
returns-clause-ends g c =
    let held = g.F.Files.held c.args.files.now in
    let before = g.F.Files.faults c.args.files.now in
    let now = g.F.Files.faults c.read_network.new.files in
    let name = c.args.net.now in
    let order = Run name c.args.options.tries c.args.options.workers c.args.options.round in
    alone order name held before now c.in_ok-net.net (Ok c.in_ok-text_of_run.field-0) refl c.in_ok-net.ensures.accepted c.in_ok-text_of_run.ensures
