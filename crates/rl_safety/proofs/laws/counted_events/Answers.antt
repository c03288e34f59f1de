use Rattle.std.proofs.Common.{length}
use Rattle.rl_steps.specs.Run.{state}
use Rattle.rl_protocol.proofs.Totals.{opened_most}
use Rattle.rl_safety.specs.Reading.{read}
use Rattle.rl_protocol.specs.TableLine.{line_of}
use Rattle.rl_safety.proofs.laws.counted_events.Goals as goal

pub returns : goal.returns
returns c =
    record {
      events = λ tables tries events line few run.
          let is = c.steps_of_events.ensures tables tries events line few run in
          let fine = c.lines_of_tables.ensures.consistent tables line in
          let trains = c.lines_of_tables.ensures.trains tables in
          rw (is.count, is.state) (c.counted_steps.ensures.steps (line_of tables) tries (length tables.trains) is.steps fine trains is.run);
      node = λ tables tries events n node line few run there.
          let is = c.steps_of_events.ensures tables tries events line few run in
          let fine = c.lines_of_tables.ensures.consistent tables line in
          let trains = c.lines_of_tables.ensures.trains tables in
          rw (is.by n node there, is.state) (c.counted_steps.ensures.node (line_of tables) tries (length tables.trains) is.steps node fine trains is.run);
      moves = λ tables tries events line few run.
          let is = c.steps_of_events.ensures tables tries events line few run in
          let fine = c.lines_of_tables.ensures.consistent tables line in
          let trains = c.lines_of_tables.ensures.trains tables in
          rw (is.moves, is.state) (c.counted_steps.ensures.moves (line_of tables) tries (length tables.trains) is.steps fine trains is.run);
      opened = λ tables tries events. opened_most tries (read tables tries (state tables tries events)) (length tables.trains);
    }
