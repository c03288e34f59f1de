use Rattle.std.proofs.Common.{[], ◌∷◌, refl}
use Rattle.rl_base.specs.declared.limits.TheConstants.{MAX_SCHEDULE_BYTES}
use Rattle.rl_cli.specs.declared.order.Order.TheVariants.{Drive}
use Rattle.rl_schedule.specs.Refusals.{refusal_number, refusal_place}
use Rattle.rl_schedule.specs.declared.refusal.ScheduleRefusal.TheVariants.{TooMany}
use Rattle.relis.specs.Answers.{EndsAs, UnlessMemory}
use Rattle.relis.specs.Commands.{DrivesScheduleTo}
use Rattle.relis.proofs.Ends.{both, passed_end, stopped, unread, WasFollowed}
use Rattle.relis.proofs.Fetches.{fetches_both, fetches_fewer}
use Rattle.relis.proofs.Schedules.{too_many}
use Rattle.relis.proofs.drive.drive_schedule.Goals as goal

pub returns-in_err-net : goal.returns-in_err-net
returns-in_err-net g c =
    let held = g.F.Files.held c.args.files.now in
    let before = g.F.Files.faults c.args.files.now in
    let now = g.F.Files.faults c.read_network.new.files in
    let first = c.args.net.now in
    let second = c.args.schedule.now in
    let order = Drive first second c.args.tries in
    let answer = c.in_err-net.field-0.0 in
    record {
      ends =
          passed_end (EndsAs order held before now) c.from_residual.result answer c.from_residual.ensures.1
          (stopped order first (second ∷ []) held before now answer refl c.in_err-net.ensures.refused);
      fetches = fetches_fewer first second held (g.F.Files.held c.read_network.new.files) before now c.read_network.ensures.fetches;
    }

pub returns-in_err-schedule : goal.returns-in_err-schedule
returns-in_err-schedule g c =
    let held = g.F.Files.held c.args.files.now in
    let after = g.F.Files.held c.read_network.new.files in
    let last = g.F.Files.held c.read_file.new.files in
    let x = g.F.Files.faults c.args.files.now in
    let y = g.F.Files.faults c.read_network.new.files in
    let z = g.F.Files.faults c.read_file.new.files in
    let first = c.args.net.now in
    let second = c.args.schedule.now in
    let order = Drive first second c.args.tries in
    let net = c.in_ok-net.net in
    let answer = c.in_err-schedule.field-0.0 in
    let followed : WasFollowed held after x y first net = record { read = c.in_ok-net.ensures.accepted; fetches = c.read_network.ensures.fetches } in
    record {
      ends =
          passed_end (EndsAs order held x z) c.from_residual-in_err-schedule.result answer c.from_residual-in_err-schedule.ensures.1
          (unread order first second held after x y z net MAX_SCHEDULE_BYTES (refusal_number (TooMany 0)) (refusal_place (TooMany 0)) answer refl followed
          (rw (c.long_schedule.ensures.number, c.long_schedule.ensures.place) at c.in_err-schedule.ensures.unread)
          (λ bytes long_one. too_many net bytes c.args.tries long_one));
      fetches = fetches_both first second held after last x y z c.read_network.ensures.fetches c.read_file.ensures.fetches;
    }

pub returns : goal.returns
returns g c =
    let held = g.F.Files.held c.args.files.now in
    let after = g.F.Files.held c.read_network.new.files in
    let last = g.F.Files.held c.read_file.new.files in
    let x = g.F.Files.faults c.args.files.now in
    let y = g.F.Files.faults c.read_network.new.files in
    let z = g.F.Files.faults c.read_file.new.files in
    let first = c.args.net.now in
    let second = c.args.schedule.now in
    let order = Drive first second c.args.tries in
    let net = c.in_ok-net.net in
    let bytes = c.in_ok-schedule.schedule.items in
    let followed : WasFollowed held after x y first net = record { read = c.in_ok-net.ensures.accepted; fetches = c.read_network.ensures.fetches } in
    let work : UnlessMemory (DrivesScheduleTo net bytes c.args.tries) c.schedule_on.result = rw c.as_slice.ensures.value at c.schedule_on.ensures in
    record {
      ends = both order first second held after x y z net bytes
          (DrivesScheduleTo net bytes c.args.tries) c.schedule_on.result refl followed c.in_ok-schedule.ensures.read (λ e w. w) work;
      fetches = fetches_both first second held after last x y z c.read_network.ensures.fetches c.read_file.ensures.fetches;
    }
