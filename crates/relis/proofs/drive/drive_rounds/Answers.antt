use Rattle.std.proofs.Common.{[], refl}
use Rattle.rl_cli.specs.declared.order.Order.TheVariants.{Rounds}
use Rattle.relis.specs.Answers.{EndsAs}
use Rattle.relis.specs.Commands.{DrivesRoundsTo}
use Rattle.relis.proofs.Ends.{alone, passed_end, stopped, unless_memory}
use Rattle.relis.proofs.drive.drive_rounds.Goals as goal

pub returns-in_err-net-clause-ends : goal.returns-in_err-net-clause-ends
returns-in_err-net-clause-ends g c =
    let held = g.F.Files.held c.args.files.now in
    let before = g.F.Files.faults c.args.files.now in
    let now = g.F.Files.faults c.read_network.new.files in
    let name = c.args.net.now in
    let order = Rounds name c.args.rounds c.args.tries in
    let answer = c.in_err-net.field-0.0 in
    passed_end (EndsAs order held before now) c.from_residual.result answer c.from_residual.ensures.1
    (stopped order name [] held before now answer refl c.in_err-net.ensures.refused)

pub returns-clause-ends : goal.returns-clause-ends
returns-clause-ends g c =
    let held = g.F.Files.held c.args.files.now in
    let before = g.F.Files.faults c.args.files.now in
    let now = g.F.Files.faults c.read_network.new.files in
    let name = c.args.net.now in
    let order = Rounds name c.args.rounds c.args.tries in
    let net = c.in_ok-net.net in
    unless_memory (DrivesRoundsTo net c.args.rounds c.args.tries) (EndsAs order held before now) c.rounds_on.result
    (λ e work. alone order name held before now net e refl c.in_ok-net.ensures.accepted work) c.rounds_on.ensures
