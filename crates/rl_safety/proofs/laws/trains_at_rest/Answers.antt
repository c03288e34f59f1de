use Rattle.std.proofs.Common.{sym, ap, ◌∙◌, subst}
use Rattle.rl_model.specs.Reports.{Rests}
use Rattle.rl_protocol.specs.Minds.{at_rest}
use Rattle.rl_protocol.specs.Rest.{AllAtRest, HoldsSegmentsAlone}
use Rattle.rl_protocol.specs.State.{State}
use Rattle.rl_protocol.specs.TableLine.{line_of}
use Rattle.rl_protocol.specs.Worlds.{world_at}
use Rattle.rl_safety.proofs.laws.trains_at_rest.Goals as goal

pub returns : goal.returns
returns c =
    record {
      all = λ tables tries events line few run rest.
          let is = c.steps_of_events.ensures tables tries events line few run in
          let fine = c.lines_of_tables.ensures.consistent tables line in
          subst (HoldsSegmentsAlone (line_of tables)) (sym is.state)
          (c.trains_at_rest.ensures.all (line_of tables) tries is.steps fine is.run (subst (AllAtRest (line_of tables)) is.state rest));
      each = λ net tables tries events t network are few run there rest.
          let line = c.tables_of_networks.ensures.line net tables network are in
          let is = c.steps_of_events.ensures tables tries events line few run in
          let railway = c.lines_of_tables.ensures.railway net tables network line are in
          let R : State → Type 0 = λ s. Rests net (world_at net s) t in
          subst R (sym is.state)
          (c.trains_at_rest.ensures.each net (line_of tables) tries is.steps t railway is.run there
          (ap (λ (s : State). at_rest (line_of tables) t (s.trains t)) (sym is.state) ∙ rest));
    }
