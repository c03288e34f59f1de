use Rattle.std.proofs.Common.{[], ◌∷◌, inl, refl}
use Rattle.rl_base.specs.declared.limits.TheConstants.{MAX_REPORT_BYTES}
use Rattle.rl_cli.specs.declared.order.Order.TheVariants.{Audit}
use Rattle.rl_report.specs.Refusals.{refusal_number, refusal_place}
use Rattle.rl_report.specs.declared.refusal.ReportRefusal.TheVariants.{Long}
use Rattle.relis.specs.Answers.{EndsAs, UnlessMemory}
use Rattle.relis.specs.Commands.{AuditsTo, long}
use Rattle.relis.proofs.Ends.{both, passed_end, stopped, unread, WasFollowed}
use Rattle.relis.proofs.Fetches.{fetches_both, fetches_fewer}
use Rattle.relis.proofs.audit.audit.Goals as goal

pub returns-in_err-net : goal.returns-in_err-net
returns-in_err-net g c =
    let held = g.F.Files.held c.args.files.now in
    let before = g.F.Files.faults c.args.files.now in
    let now = g.F.Files.faults c.read_network.new.files in
    let first = c.args.net.now in
    let second = c.args.report.now in
    let order = Audit first second in
    let answer = c.in_err-net.field-0.0 in
    record {
      ends =
          passed_end (EndsAs order held before now) c.from_residual.result answer c.from_residual.ensures.1
          (stopped order first (second ∷ []) held before now answer refl c.in_err-net.ensures.refused);
      fetches = fetches_fewer first second held (g.F.Files.held c.read_network.new.files) before now c.read_network.ensures.fetches;
    }

pub returns-in_err-report : goal.returns-in_err-report
returns-in_err-report g c =
    let held = g.F.Files.held c.args.files.now in
    let after = g.F.Files.held c.read_network.new.files in
    let last = g.F.Files.held c.read_file.new.files in
    let x = g.F.Files.faults c.args.files.now in
    let y = g.F.Files.faults c.read_network.new.files in
    let z = g.F.Files.faults c.read_file.new.files in
    let first = c.args.net.now in
    let second = c.args.report.now in
    let order = Audit first second in
    let net = c.in_ok-net.net in
    let answer = c.in_err-report.field-0.0 in
    let followed : WasFollowed held after x y first net = record { read = c.in_ok-net.ensures.accepted; fetches = c.read_network.ensures.fetches } in
    record {
      ends =
          passed_end (EndsAs order held x z) c.from_residual-in_err-report.result answer c.from_residual-in_err-report.ensures.1
          (unread order first second held after x y z net MAX_REPORT_BYTES (refusal_number Long) (refusal_place Long) answer refl followed
          (rw (c.long_report.ensures.number, c.long_report.ensures.place) at c.in_err-report.ensures.unread)
          (λ bytes long_one. long (inl long_one)));
      fetches = fetches_both first second held after last x y z c.read_network.ensures.fetches c.read_file.ensures.fetches;
    }

pub returns : goal.returns
returns g c =
    let held = g.F.Files.held c.args.files.now in
    let after = g.F.Files.held c.read_network.new.files in
    let last = g.F.Files.held c.read_file.new.files in
    let x = g.F.Files.faults c.args.files.now in
    let y = g.F.Files.faults c.read_network.new.files in
    let z = g.F.Files.faults c.read_file.new.files in
    let first = c.args.net.now in
    let second = c.args.report.now in
    let order = Audit first second in
    let net = c.in_ok-net.net in
    let bytes = c.in_ok-report.report.items in
    let followed : WasFollowed held after x y first net = record { read = c.in_ok-net.ensures.accepted; fetches = c.read_network.ensures.fetches } in
    let work : UnlessMemory (AuditsTo net bytes) c.audit_on.result = rw c.as_slice.ensures.value at c.audit_on.ensures in
    record {
      ends = both order first second held after x y z net bytes (AuditsTo net bytes) c.audit_on.result refl followed c.in_ok-report.ensures.read
          (λ e w. w) work;
      fetches = fetches_both first second held after last x y z c.read_network.ensures.fetches c.read_file.ensures.fetches;
    }
