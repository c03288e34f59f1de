use Rattle.std.proofs.Common.{List, reverse, sym, subst}
use Rattle.rl_record.specs.Records.{Record, AreHistories, IsMergeOf}
use Rattle.rl_steps.specs.declared.mind.Mind.{Mind}
use Rattle.rl_rule.specs.Seats.{rails_line, rails_tries}
use Rattle.rl_nodes.specs.Finished.{records_of, end_state, AreMinds, attempts_in, AreFew}
use Rattle.rl_nodes.proofs.LastRun.{last_run, records_are}
use Rattle.rl_nodes.proofs.Outcomes.{Laws, outcome}
use Rattle.rl_nodes.proofs.finishing.finish.Goals as goal

pub merge-requires : goal.merge-requires
merge-requires c =
    let rails = c.args.rails in
    let parts = c.args.parts in
    let told = c.in_ok-records.ensures in
    let close = c.close-words.ensures in
    let words = c.close-words.result in
    let (log, last) = last_run rails c.take_all_in.new.rails parts words c.requires.none_taken told.rails told.taken close.line close.tries close.run in
    subst AreHistories (sym told.records)
    (c.merged_records.ensures.histories (rails_line rails) (rails_tries rails) log (records_of parts) last.replay.run
    (records_are rails parts words log c.requires last))

pub returns : goal.returns
returns c =
    let rails = c.args.rails in
    let parts = c.args.parts in
    let words = c.close-words.result in
    let events = c.in_ok-events.events in
    let told = c.in_ok-records.ensures in
    let close = c.close-words.ensures in
    let counted = c.counted_events.ensures in
    let laws : Laws = record {
      merged = c.merged_records.ensures.run;
      counts = record { events = counted.events; node = counted.node; opened = counted.opened };
    } in
    let (log, last) = last_run rails c.take_all_in.new.rails parts words c.requires.none_taken told.rails told.taken close.line close.tries close.run in
    let merge = subst (λ (l : List Record). IsMergeOf l events) told.records c.in_ok-events.ensures in
    let out = outcome laws rails parts words log events c.requires last merge in
    record {
      records = told.records;
      minds = told.minds;
      merge = c.in_ok-events.ensures;
      run = out.run;
      words = out.words_are;
      last_minds = subst (λ (l : List Mind). AreMinds (end_state rails events).minds l) (sym told.minds) out.minds_are;
      few = subst (λ (l : List Record). AreFew (attempts_in rails events) l events) (sym told.records) out.few;
      attempts = counted.opened (rails_line rails) (rails_tries rails) (reverse events);
      promised = c.promises_of_runs.ensures (rails_line rails) (rails_tries rails) (reverse events) out.line out.tries out.run;
    }
