-- The run behind the closing words, from the side of the parts: their records hold its histories, and their minds are
-- those that it leaves.
use Rattle.std.proofs.Common.{◌≡◌, ℕ, zero, suc, ◌<◌, ◌≤◌, List, [], ◌∷◌, ◌++◌, length}
use Rattle.std.proofs.Common.{map, reverse, slice_get, Some, refl, sym, ap, ◌∙◌, subst, append-nil, arith}
use Rattle.std.proofs.lemmas.List.{length-map, reverse-reverse}
use Rattle.std.proofs.lemmas.Option.{slice_get_within}
use Rattle.rl_base.specs.Tries.{AreFewTries}
use Rattle.rl_record.specs.declared.event.Event.{Event}
use Rattle.rl_record.specs.Merge.{history}
use Rattle.rl_record.specs.Records.{Record}
use Rattle.rl_merge.specs.Records.{AreRecordsOf}
use Rattle.rl_tables.specs.declared.table.Tables.{Tables}
use Rattle.rl_tables.specs.Kept.{IsLine}
use Rattle.rl_steps.specs.Run.{state}
use Rattle.rl_rule.specs.declared.rails.Rails.{Rails}
use Rattle.rl_rule.specs.declared.views.Kept.{Kept}
use Rattle.rl_rule.specs.Closing.{IsReplay}
use Rattle.rl_rule.specs.Ruled.{IsKept}
use Rattle.rl_rule.specs.Seats.{rails_line, rails_tries, taken, walk_of, IsSameRails}
use Rattle.rl_nodes.specs.declared.parts.Part.{Part}
use Rattle.rl_nodes.specs.Parts.{AreParts}
use Rattle.rl_nodes.specs.Finished.{records_of, minds_of, AreMinds}
use Rattle.rl_nodes.proofs.KeptParts.{kept_part, kept_parts, kept_at, none_kept}

-- the log is the run of all the parts of these rails
pub record IsLastRun (rails : Rails) (parts : List Part) (words : List ℕ) (log : List Event) : Type 0 where
  pub line : IsLine (rails_line rails)
  pub tries : AreFewTries (rails_tries rails)
  pub replay : IsReplay (rails_line rails) (rails_tries rails) (kept_parts parts) words log

-- as closing the rails tells it, once the parts were taken in
pub last_run : (old new : Rails) (parts : List Part) (words : List ℕ) → taken old ≡ [] → IsSameRails old new
    → taken new ≡ kept_parts parts ++ taken old → IsLine (rails_line new) → AreFewTries (rails_tries new)
    → (log : List Event) × IsReplay (rails_line new) (rails_tries new) (taken new) words log
    → (log : List Event) × IsLastRun old parts words log
last_run old new parts words none same all line tries (log, replay) =
    let kept : taken new ≡ kept_parts parts = all ∙ (ap (λ (l : List Kept). kept_parts parts ++ l) none ∙ append-nil (kept_parts parts)) in
    let on_line : IsReplay (rails_line old) (rails_tries new) (taken new) words log =
    subst (λ (t : Tables). IsReplay t (rails_tries new) (taken new) words log) same.line replay in
    let with_tries : IsReplay (rails_line old) (rails_tries old) (taken new) words log =
    subst (λ (k : ℕ). IsReplay (rails_line old) k (taken new) words log) same.tries on_line in (
      log,
      record {
        line = subst IsLine same.line line;
        tries = subst AreFewTries same.tries tries;
        replay = subst (λ (l : List Kept). IsReplay (rails_line old) (rails_tries old) l words log) kept with_tries;
      },
    )

-- an item of what is made of each is made of one
module _ {A : Type 0} (f : Part → A) where
  pub made_of : (parts : List Part) (n : ℕ) (a : A) → slice_get (map f parts) n ≡ Some a
      → (part : Part) × (slice_get parts n ≡ Some part) × (f part ≡ a)
  made_of [] n a at = absurd (cc)
  made_of (p ∷ ps) zero a at = (p, refl, cc)
  made_of (p ∷ ps) (suc n) a at = made_of ps n a at

-- the record of a part is the history of its node in the run
record_is : (rails : Rails) (parts : List Part) (words : List ℕ) (log : List Event) → AreParts rails parts → IsLastRun rails parts words log
    → (n : ℕ) (part : Part) → slice_get parts n ≡ Some part → part.«record».events ≡ reverse (history n log)
record_is rails parts words log are last n part at =
    let kept : IsKept (rails_line rails) (rails_tries rails) log (kept_part part) =
    kept_at (rails_line rails) (rails_tries rails) log parts n part last.replay.kept at in
    let own : (walk_of part.seat).history ≡ history n log = kept.history ∙ ap (λ (m : ℕ). history m log) (are.each n part at).number in
    sym (reverse-reverse part.«record».events) ∙ ap (λ (l : List Event). reverse l) (sym part.history_is ∙ own)

no_other : (rails : Rails) (parts : List Part) (words : List ℕ) (log : List Event) → AreParts rails parts → IsLastRun rails parts words log
    → (n : ℕ) → length parts ≤ n → history n log ≡ []
no_other rails parts words log are last n past =
    last.replay.histories n
    ∙ none_kept n (map kept_part parts) (λ i k at same.
    let made = made_of kept_part parts i k at in
    let within : i < length parts = slice_get_within parts i made.0 made.1 in
    let number : (walk_of made.0.seat).node.0 ≡ i = (are.each i made.0 made.1).number in
    let node : k.node.0 ≡ (walk_of made.0.seat).node.0 = ap (λ (l : Kept). l.node.0) (sym made.2) in
    omega arith)

pub records_are : (rails : Rails) (parts : List Part) (words : List ℕ) (log : List Event) → AreParts rails parts → IsLastRun rails parts words log
    → AreRecordsOf log (records_of parts)
records_are rails parts words log are last =
    record {
      each = λ n r at.
          let made = made_of (λ (part : Part). part.«record») parts n r at in
          ap (λ (s : Record). s.events) (sym made.2) ∙ record_is rails parts words log are last n made.0 made.1;
      others = λ n past.
          let size : length (records_of parts) ≡ length parts = length-map parts (λ (part : Part). part.«record») in
          no_other rails parts words log are last n (omega arith);
    }

pub minds_are : (rails : Rails) (parts : List Part) (words : List ℕ) (log : List Event) → AreParts rails parts → IsLastRun rails parts words log
    → AreMinds (state (rails_line rails) (rails_tries rails) log).minds (minds_of parts)
minds_are rails parts words log are last n mind at =
    let (part, there, is) = made_of (λ (part : Part). part.mind) parts n mind at in
    let kept : IsKept (rails_line rails) (rails_tries rails) log (kept_part part) =
    kept_at (rails_line rails) (rails_tries rails) log parts n part last.replay.kept there in
    sym is ∙ (sym part.mind_is ∙ (kept.mind ∙ ap (state (rails_line rails) (rails_tries rails) log).minds (are.each n part there).number))
