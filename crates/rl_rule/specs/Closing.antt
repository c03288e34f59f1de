-- What the closing words are: the words of the run that all nodes made together.
use Rattle.std.specs.Prelude.{◌≡◌, ℕ, ◌==◌, List, [], ◌∷◌, if◌then◌else◌}
use Rattle.rl_record.specs.declared.event.Event.{Event}
use Rattle.rl_record.specs.Merge.{history}
use Rattle.rl_tables.specs.declared.table.Tables.{Tables}
use Rattle.rl_steps.specs.Run.{IsRun, state}
use Rattle.rl_rule.specs.declared.views.Kept.{Kept}
use Rattle.rl_rule.specs.Ruled.{AreKept}

-- the history that was kept of node n, and none where it has none
abbrev pub kept_history : List Kept → ℕ → List Event
kept_history [] n = []
kept_history (kept ∷ more) n = if kept.node.0 == n then kept.history else kept_history more n

-- the log is a run of just these histories, the words are those that it leaves, and each mind that was kept is its
-- node's mind then
pub record IsReplay (tables : Tables) (tries : ℕ) (taken : List Kept) (words : List ℕ) (log : List Event) : Type 0 where
  pub run : IsRun tables tries log
  pub histories : (n : ℕ) → history n log ≡ kept_history taken n
  pub words_are : words ≡ (state tables tries log).words
  pub kept : AreKept tables tries log taken
