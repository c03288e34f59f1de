-- What the reading of a file tells of it and of all files, step by step.
use Rattle.std.specs.Prelude.{◌≡◌, ℕ, ◌<◌, ◌≤◌, List, length, Contains, IfSome}
use Rattle.rl_base.specs.declared.place.Place.{Place}
use Rattle.rl_model.specs.declared.network.NetworkPlan.{NetworkPlan}
use Rattle.rl_outside.specs.Causes.{Rose}
use Rattle.relis.specs.Answers.{Held, Counts, Tells, NoneRose, HoldsNetwork, HoldsRefused}
use Rattle.relis.specs.declared.status.Status.{Status}
use Rattle.relis.specs.declared.status.Status.TheVariants as status

-- of files only those with these names were fetched: the files stay, so do the counts of all others, and no count falls
pub record FetchesOf (names : List (List ℕ)) (held after : Held) (before now : Counts) : Type 0 where
  pub stay : (name : List ℕ) → after name ≡ held name
  pub others : (name : List ℕ) → (Contains names name → ⊥) → now name ≡ before name
  pub later : (name : List ℕ) → before name ≤ now name

-- how a file was read whole, in so many bytes, or why it wasn't
pub record WasRead (held : Held) (before now : Counts) (name bytes : List ℕ) : Type 0 where
  pub none : NoneRose before now
  pub told : Tells held name bytes

abbrev pub WasNotRead : Held → Counts → Counts → List ℕ → ℕ → ℕ → Place → Status → Type 0
WasNotRead held before now name limit number place status.ReadFault = Rose (before name) (now name)
WasNotRead held before now name limit number place status.NoMemory = Unit {0}
WasNotRead held before now name limit number place answer =
    (answer ≡ status.Refused number place) × NoneRose before now × IfSome (held name) (λ there. limit < length there)

-- a network was read, or why it wasn't
pub record WasAccepted (held : Held) (before now : Counts) (name : List ℕ) (net : NetworkPlan) : Type 0 where
  pub none : NoneRose before now
  pub holds : HoldsNetwork held name net

abbrev pub WasNotAccepted : Held → Counts → Counts → List ℕ → Status → Type 0
WasNotAccepted held before now name status.ReadFault = Rose (before name) (now name)
WasNotAccepted held before now name (status.Refused number place) =
    NoneRose before now × HoldsRefused held name number place
WasNotAccepted held before now name status.NoMemory = Unit {0}
WasNotAccepted held before now name answer = ⊥
