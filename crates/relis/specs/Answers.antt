-- What each answer of the program says of the order, of the files and of the text that goes with it.
use Rattle.std.specs.Prelude.{◌≡◌, ℕ, List, [], ◌∷◌, Contains, Option, None, Some, IfSome, Ok, Err, ◌⊎◌}
use Rattle.rl_base.specs.declared.place.Place.{Place}
use Rattle.rl_model.specs.declared.network.NetworkPlan.{NetworkPlan}
use Rattle.rl_outside.specs.Causes.{Rose}
use Rattle.rl_cli.specs.declared.order.Order.{Order}
use Rattle.relis.specs.Commands.{End, IsWork}
use Rattle.relis.specs.Lines.{status_line}
use Rattle.relis.specs.Networks.{IsAcceptedAs, IsRefusedAs}
use Rattle.relis.specs.Orders.{files_of}
use Rattle.relis.specs.declared.status.Status.{Status}
use Rattle.relis.specs.declared.status.Status.TheVariants as status

-- the bytes that files tell under their names, each if it is told
abbrev pub Held : Type 0
Held = List ℕ → Option (List ℕ)

-- the counts of faults of files by their names
abbrev pub Counts : Type 0
Counts = List ℕ → ℕ

-- the file tells these bytes, or none
abbrev pub Tells : Held → List ℕ → List ℕ → Type 0
Tells held name bytes = IfSome (held name) (λ there. bytes ≡ there)

-- these are the bytes that the files tell under these names
abbrev pub AreTold : Held → List (List ℕ) → List (List ℕ) → Type 0
AreTold held [] [] = Unit {0}
AreTold held (name ∷ names) (bytes ∷ others) = Tells held name bytes × AreTold held names others
AreTold held _ _ = ⊥

-- carrying the order out on what the files hold ends so
pub record IsCarriedOut (held : Held) (order : Order) (end : End) : Type 0 where
  pub contents : List (List ℕ)
  pub told : AreTold held (files_of order) contents
  pub work : IsWork order contents end

-- no file's count of faults changed
abbrev pub NoneRose : Counts → Counts → Type 0
NoneRose before now = (name : List ℕ) → now name ≡ before name

-- the count of faults of one of these files rose
abbrev pub OneRose : List (List ℕ) → Counts → Counts → Type 0
OneRose names before now = (name : List ℕ) × Contains names name × Rose (before name) (now name)

-- the file holds the text of this accepted network, or one that is refused, at this number and place
pub record HoldsNetwork (held : Held) (name : List ℕ) (net : NetworkPlan) : Type 0 where
  pub bytes : List ℕ
  pub told : Tells held name bytes
  pub accepted : IsAcceptedAs bytes net

pub record HoldsRefused (held : Held) (name : List ℕ) (number : ℕ) (place : Place) : Type 0 where
  pub bytes : List ℕ
  pub told : Tells held name bytes
  pub refused : IsRefusedAs bytes number place

-- The first of these files, which is a network's, could not be read, or one of the others couldn't, each of which is
-- read only where the network is accepted
abbrev pub CouldNotRead : Held → Counts → Counts → List (List ℕ) → Type 0
CouldNotRead held before now [] = ⊥
CouldNotRead held before now (first ∷ others) =
    Rose (before first) (now first) ⊎ (((net : NetworkPlan) × HoldsNetwork held first net) × OneRose others before now)

-- how an order ends, over files that hold these bytes and whose counts of faults were and are these
abbrev pub EndsAs : Order → Held → Counts → Counts → End → Type 0
EndsAs order held before now (Err status.ReadFault) = CouldNotRead held before now (files_of order)
EndsAs order held before now end = NoneRose before now × IsCarriedOut held order end

-- the same of words that may give no order
abbrev pub IsOutcome : Option Order → Held → Counts → Counts → End → Type 0
IsOutcome None held before now end = (end ≡ Err status.Usage) × NoneRose before now
IsOutcome (Some order) held before now end = EndsAs order held before now end

-- the fact, unless memory ran out
abbrev pub UnlessMemory : (End → Type 0) → End → Type 0
UnlessMemory P (Ok text) = P (Ok text)
UnlessMemory P (Err status.NoMemory) = Unit {0}
UnlessMemory P (Err answer) = P (Err answer)

-- The cause of each answer and the text that goes with it
abbrev pub LeadsTo : Option Order → Held → Counts → Counts → Status → List ℕ → Type 0
LeadsTo asked held before now status.WriteFault text = ⊥
LeadsTo asked held before now status.NoMemory text = ⊥
LeadsTo asked held before now status.Done text = IsOutcome asked held before now (Ok text)
LeadsTo asked held before now answer text = IsOutcome asked held before now (Err answer) × (text ≡ status_line answer)

-- the files that the words name
abbrev pub names_of : Option Order → List (List ℕ)
names_of None = []
names_of (Some order) = files_of order
