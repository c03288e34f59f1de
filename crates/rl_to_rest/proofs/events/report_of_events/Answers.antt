use Rattle.std.proofs.Common.{length, reverse}
use Rattle.std.proofs.lemmas.List.{length-reverse}
use Rattle.rl_base.specs.Numbers.{IsU32}
use Rattle.rl_to_rest.proofs.RunEvents.{few_events, on_the_line}
use Rattle.rl_to_rest.proofs.events.report_of_events.Goals as goal

pub moves_of-requires : goal.moves_of-requires
moves_of-requires c =
    let tables = c.args.line.now in
    let events = c.args.events.now in
    let line = c.layout-layout.ensures.line in
    let log = reverse events in
    let opened = c.counted_events.ensures.opened tables c.args.tries log in
    let made = c.counted_events.ensures.events tables c.args.tries log line c.requires.few_tries c.requires.run in
    let short : IsU32 (length log) = few_events tables c.args.tries log line c.requires.few_tries opened made in
    on_the_line tables c.args.tries events c.sound_runs.ensures line c.requires.few_tries (rw (← length-reverse events) short) c.requires.run
