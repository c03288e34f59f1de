use Rattle.relis.specs.Reading.{WasNotAccepted}
use Rattle.relis.proofs.Ends.{not_accepted, passed}
use Rattle.relis.proofs.reading.read_network.Goals as goal

pub returns-in_err-bytes-clause-refused : goal.returns-in_err-bytes-clause-refused
returns-in_err-bytes-clause-refused g c =
    let held = g.F.Files.held c.args.files.now in
    let before = g.F.Files.faults c.args.files.now in
    let now = g.F.Files.faults c.read_file.new.files in
    let name = c.args.name.now in
    passed (WasNotAccepted held before now name) c.from_residual.result c.in_err-bytes.field-0.0 c.from_residual.ensures.1
    (not_accepted held before now name c.in_err-bytes.field-0.0 c.in_err-bytes.ensures.unread)
