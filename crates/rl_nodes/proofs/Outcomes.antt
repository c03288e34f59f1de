-- What comes of the parts of some rails, from the run behind the closing words: the merge of the records leads there too.
use Rattle.std.proofs.Common.{◌≡◌, ℕ, List, length, reverse, refl, sym, ap, ◌∙◌}
use Rattle.std.proofs.lemmas.List.{length-map}
use Rattle.rl_base.specs.Numbers.{IsU32}
use Rattle.rl_base.specs.Tries.{AreFewTries}
use Rattle.rl_base.specs.Layout.{node_count}
use Rattle.rl_record.specs.declared.event.Event.{Event}
use Rattle.rl_record.specs.Records.{Record, IsMergeOf}
use Rattle.rl_merge.specs.Records.{AreRecordsOf}
use Rattle.rl_tables.specs.declared.table.Tables.{Tables}
use Rattle.rl_tables.specs.Kept.{IsLine}
use Rattle.rl_tables.specs.Starts.{layout_of}
use Rattle.rl_steps.specs.State.{CoreState}
use Rattle.rl_steps.specs.Run.{IsRun, state}
use Rattle.rl_safety.specs.Counts.{attempts_of}
use Rattle.rl_rule.specs.declared.rails.Rails.{Rails}
use Rattle.rl_rule.specs.Seats.{rails_line, rails_tries}
use Rattle.rl_nodes.specs.declared.parts.Part.{Part}
use Rattle.rl_nodes.specs.Parts.{AreParts}
use Rattle.rl_nodes.specs.Finished.{records_of, minds_of, IsRunOf, end_state, AreMinds, attempts_in, AreFew}
use Rattle.rl_nodes.proofs.LastRun.{IsLastRun, records_are, minds_are}
use Rattle.rl_nodes.proofs.Counted.{Counts, room, all_few}

-- the laws of merges and of counts that are used here
pub record Laws : Type 0 where
  pub merged : (tables : Tables) (tries : ℕ) (log : List Event) (records : List Record) (events : List Event) → IsLine tables → AreFewTries tries
      → IsU32 (length log) → IsRun tables tries log → AreRecordsOf log records → IsMergeOf records events
      → IsRun tables tries (reverse events) × (state tables tries (reverse events) ≡ state tables tries log)
  pub counts : Counts

pub record IsOutcome (rails : Rails) (parts : List Part) (words : List ℕ) (events : List Event) : Type 0 where
  pub run : IsRunOf rails events
  pub words_are : words ≡ (end_state rails events).words
  pub minds_are : AreMinds (end_state rails events).minds (minds_of parts)
  pub few : AreFew (attempts_in rails events) (records_of parts) events
  pub line : IsLine (rails_line rails)
  pub tries : AreFewTries (rails_tries rails)

pub outcome : Laws → (rails : Rails) (parts : List Part) (words : List ℕ) (log : List Event) (events : List Event) → AreParts rails parts
    → IsLastRun rails parts words log → IsMergeOf (records_of parts) events → IsOutcome rails parts words events
outcome laws rails parts words log events are last merge =
    let tables = rails_line rails in
    let tries = rails_tries rails in
    let records : AreRecordsOf log (records_of parts) = records_are rails parts words log are last in
    let fits : IsU32 (length log) = room laws.counts tables tries log last.line last.tries last.replay.run in
    let (run, same) = laws.merged tables tries log (records_of parts) events last.line last.tries fits last.replay.run records merge in
    let size : length (records_of parts) ≡ node_count (layout_of tables) =
    length-map parts (λ (part : Part). part.«record») ∙ (are.all_here ∙ are.all_handed) in
    let alike : attempts_of tables tries log ≡ attempts_of tables tries (reverse events) = rw same refl in
    record {
      run = run;
      words_are = last.replay.words_are ∙ ap (λ (c : CoreState). c.words) (sym same);
      minds_are = λ n mind at. minds_are rails parts words log are last n mind at ∙ ap (λ (c : CoreState). c.minds n) (sym same);
      few = all_few laws.counts tables tries log (records_of parts) events last.line last.tries last.replay.run records size run alike;
      line = last.line;
      tries = last.tries;
    }
