-- What a call of the program promises of its status, of the files and of the sink.
use Rattle.std.specs.Prelude.{◌≡◌, ◌≢◌, ℕ, ◌≤◌, ◌⊎◌, List, Contains, Option, Some, IsSome}
use Rattle.std.specs.Io.KnownBytes.{Appends}
use Rattle.rl_outside.specs.Causes.{RoseOrFull}
use Rattle.rl_outside.specs.Sink.{AppendsPart}
use Rattle.rl_model.specs.declared.network.NetworkPlan.{NetworkPlan}
use Rattle.rl_cli.specs.declared.order.Order.{Order}
use Rattle.rl_cli.specs.declared.order.Order.TheVariants.{Run}
use Rattle.relis.specs.Answers.{Held, Counts, HoldsNetwork, LeadsTo, OneRose, names_of}
use Rattle.relis.specs.declared.status.Status.{Status}
use Rattle.relis.specs.declared.status.Status.TheVariants as status

-- what is known of the outside: the bytes that files tell, their counts of faults, the bytes that the sink is known to
-- have taken, and its count of faults
pub record Outside : Type 0 where
  pub held : Held
  pub file_faults : Counts
  pub written : Option (List ℕ)
  pub sink_faults : ℕ

abbrev pub outside : Held → Counts → Option (List ℕ) → ℕ → Outside
outside held file_faults written sink_faults =
    record { held = held; file_faults = file_faults; written = written; sink_faults = sink_faults }

-- the order that the words give, if they give one, and the files lead to this answer and to its text
abbrev pub HasCause : Option Order → Outside → Outside → Status → List ℕ → Type 0
HasCause asked before now answer text = LeadsTo asked before.held before.file_faults now.file_faults answer text

-- What the sink took: the whole text of the answer, or at a write fault a proper part of the text of the answer that it
-- stands for, or nothing where memory ran out
abbrev pub IsWritten : Option Order → Outside → Outside → Status → Type 0
IsWritten asked before now status.NoMemory = now.written ≡ before.written
IsWritten asked before now status.WriteFault =
    (answer : Status) × (text : List ℕ) × HasCause asked before now answer text
    × AppendsPart before.written now.written text
IsWritten asked before now answer =
    (text : List ℕ) × HasCause asked before now answer text × Appends before.written now.written text

-- the words name this file
abbrev pub IsNamed : Option Order → List ℕ → Type 0
IsNamed asked name = Contains (names_of asked) name

-- the count of faults of a file that the words name rose
abbrev pub NamedRose : Option Order → Outside → Outside → Type 0
NamedRose asked before now = OneRose (names_of asked) before.file_faults now.file_faults

-- nothing failed in the call: neither a put, nor a fetch of a file that the words name
pub record NothingFailed (asked : Option Order) (before now : Outside) : Type 0 where
  pub files : NamedRose asked before now → ⊥
  pub sink : RoseOrFull before.sink_faults now.sink_faults → ⊥

-- the files tell each file that the words name
abbrev pub AllTold : Option Order → Outside → Type 0
AllTold asked outside = (name : List ℕ) → IsNamed asked name → IsSome (outside.held name)

-- the order is a run, and its file holds the text of an accepted network
pub record AsksForRun (asked : Option Order) (outside : Outside) : Type 0 where
  pub name : List ℕ
  pub tries : ℕ
  pub workers : Option ℕ
  pub round : ℕ
  pub run : asked ≡ Some (Run name tries workers round)
  pub net : NetworkPlan
  pub holds : HoldsNetwork outside.held name net

-- What a call promises that was asked for this order, or whose words give none. It knew `before` of the outside as it
-- began, `now` is known as it returns
pub record IsCall (asked : Option Order) (before now : Outside) (result : Status) : Type 0 where
  -- what was written is the text of the answer, and the answer has its cause
  pub written : IsWritten asked before now result
  -- a put that failed is told, and nothing else is told as one
  pub write_fault : result ≡ status.WriteFault → RoseOrFull before.sink_faults now.sink_faults
  pub puts : result ≢ status.WriteFault → now.sink_faults ≡ before.sink_faults
  -- a fetch that failed is told, unless a put failed after it or memory ran out
  pub fetches : NamedRose asked before now →
      (result ≡ status.ReadFault) ⊎ (result ≡ status.WriteFault) ⊎ (result ≡ status.NoMemory)
  -- where nothing fails and the files tell what they hold, it is the one answer to which they lead, or memory ran out
  pub complete : NothingFailed asked before now → AllTold asked before → (answer : Status) (text : List ℕ) →
      HasCause asked before before answer text → (result ≡ answer) ⊎ (result ≡ status.NoMemory)
  -- a run may end with one of many texts: of an accepted network it is done, or memory ran out
  pub runs : NothingFailed asked before now → AllTold asked before → AsksForRun asked before →
      (result ≡ status.Done) ⊎ (result ≡ status.NoMemory)
  -- the files stay, and only those that the words name are fetched
  pub files_stay : (name : List ℕ) → now.held name ≡ before.held name
  pub others : (name : List ℕ) → (IsNamed asked name → ⊥) → now.file_faults name ≡ before.file_faults name
  -- no count falls
  pub later : (name : List ℕ) → before.file_faults name ≤ now.file_faults name
  pub sink_later : before.sink_faults ≤ now.sink_faults
