-- What the rule uses of the protocol: runs are sound, a step is its owner's, and a value has one owner.
use Rattle.std.proofs.Common.{◌≡◌, ℕ, ◌≤◌, List, [], length, Some}
use Rattle.rl_base.specs.Layout.{word_count}
use Rattle.rl_base.specs.Numbers.{IsU32}
use Rattle.rl_base.specs.Tries.{AreFewTries}
use Rattle.rl_base.specs.declared.layout.Layout.{Layout}
use Rattle.rl_base.specs.declared.layout.NodeKind.{NodeKind}
use Rattle.rl_words.specs.Owner.{Owns}
use Rattle.rl_record.specs.declared.event.Event.{Event}
use Rattle.rl_record.specs.Merge.{history, IsMerge}
use Rattle.rl_tables.specs.declared.table.Tables.{Tables}
use Rattle.rl_tables.specs.Kept.{IsLine}
use Rattle.rl_tables.specs.Starts.{layout_of}
use Rattle.rl_steps.specs.declared.mind.Mind.{Mind}
use Rattle.rl_steps.specs.Numbers.{node_at}
use Rattle.rl_steps.specs.Run.{IsRun, state}
use Rattle.rl_steps.specs.Sound.{IsMindOf, IsSound}
use Rattle.rl_steps.specs.Step.{node_step}
use Rattle.rl_merge.specs.Chains.{clock_left, AreChained, AreLeft}

abbrev pub RunsAreSound : Type 0
RunsAreSound = (tables : Tables) (tries : ℕ) (events : List Event) → IsLine tables → AreFewTries tries → IsU32 (length events) → IsRun tables tries events
    → IsSound tables (length events) (state tables tries events)

abbrev pub StepsAreOwners : Type 0
StepsAreOwners = (tables : Tables) (n w payload new : ℕ) (mind after : Mind) → IsLine tables
    → ((node : NodeKind) → node_at (layout_of tables) n ≡ Some node → IsMindOf tables node mind) → node_step tables n mind w payload ≡ Some (new, after)
    → Owns (layout_of tables) w payload n × IsU32 new

abbrev pub OwnersAreOne : Type 0
OwnersAreOne = (lay : Layout) (w payload m n : ℕ) → Owns lay w payload m → Owns lay w payload n → m ≡ n

pub record Laws : Type 0 where
  pub runs : RunsAreSound
  pub steps : StepsAreOwners
  pub owners : OwnersAreOne

-- what is proved of the chains of a run
pub record ChainLaws : Type 0 where
  pub chained : (tables : Tables) (tries : ℕ) (log : List Event) → IsLine tables → AreFewTries tries → IsU32 (length log) → IsRun tables tries log
      → AreChained tables tries (λ n. history n log)
  pub left : (tables : Tables) (tries : ℕ) (log : List Event) → IsLine tables → AreFewTries tries → IsU32 (length log) → IsRun tables tries log
      → AreLeft tables tries (λ n. history n log) (state tables tries log).words (state tables tries log).minds
  pub clocks : (tables : Tables) (tries : ℕ) (log : List Event) → IsRun tables tries log
      → (n : ℕ) → (state tables tries log).clocks n ≡ clock_left (history n log)

-- what is proved of chained histories and their merge
pub record MergeLaws : Type 0 where
  pub merge : (tables : Tables) (tries nodes : ℕ) (h : ℕ → List Event) → AreChained tables tries h → ((n : ℕ) → nodes ≤ n → h n ≡ [])
      → (merged : List Event) × IsMerge h merged
  pub run : (tables : Tables) (tries : ℕ) (h : ℕ → List Event) (merged : List Event) → AreChained tables tries h → IsMerge h merged
      → IsRun tables tries merged
  pub words : (tables : Tables) (tries : ℕ) (h : ℕ → List Event) (merged : List Event) (words : List ℕ) (minds : ℕ → Mind)
      → AreChained tables tries h → IsMerge h merged → AreLeft tables tries h words minds → length words ≡ word_count (layout_of tables)
      → (state tables tries merged).words ≡ words
  pub minds : (tables : Tables) (tries : ℕ) (h : ℕ → List Event) (merged : List Event) (words : List ℕ) (minds : ℕ → Mind)
      → AreChained tables tries h → IsMerge h merged → AreLeft tables tries h words minds
      → (n : ℕ) → (state tables tries merged).minds n ≡ minds n
  pub clocks : (tables : Tables) (tries : ℕ) (h : ℕ → List Event) (merged : List Event) → AreChained tables tries h → IsMerge h merged
      → (n : ℕ) → (state tables tries merged).clocks n ≡ clock_left (h n)

-- what a moment is read from
pub record MomentLaws : Type 0 where
  pub chains : ChainLaws
  pub merges : MergeLaws
  pub runs : RunsAreSound

-- the merge of the histories of a run is a run to the same state
abbrev pub MergesAreRuns : Type 0
MergesAreRuns = (tables : Tables) (tries : ℕ) (log merged : List Event) → IsLine tables → AreFewTries tries → IsU32 (length log) → IsRun tables tries log
    → IsMerge (λ n. history n log) merged → IsRun tables tries merged × (state tables tries merged ≡ state tables tries log)
