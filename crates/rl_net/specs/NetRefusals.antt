-- The refusal of a draft: its number, its place, that it is the first, and the one answer that is right.
use Rattle.std.specs.Prelude.{◌≡◌, ℕ, Option, Some, Result, Ok, Err}
use Rattle.rl_base.specs.declared.draft.Draft.{Draft}
use Rattle.rl_base.specs.declared.place.Place.{Place}
use Rattle.rl_base.specs.declared.place.Place.TheVariants as place
use Rattle.rl_model.specs.declared.network.NetworkPlan.{NetworkPlan}
use Rattle.rl_drafts.specs.Drafts.{network_of}
use Rattle.rl_drafts.specs.Refusals.{IsAccepted, IsFirstRefusal}
use Rattle.rl_drafts.specs.Search.{Refusal}
use Rattle.rl_net.specs.declared.refusal.NetRefusal.{NetRefusal}
use Rattle.rl_net.specs.declared.refusal.NetRefusal.TheVariants.{Count, Twice, ArmCount, NoSegment, SameBox, Ends, At, RouteShape, RouteName, RouteFit, StartShared, NoMemory}

-- the number of the rule that is broken, 0 for want of memory
abbrev pub refusal_number : NetRefusal → ℕ
refusal_number (Count p) = 5
refusal_number (Twice p) = 6
refusal_number (ArmCount p) = 7
refusal_number (NoSegment p) = 8
refusal_number (SameBox p) = 9
refusal_number (Ends p) = 10
refusal_number (At p) = 11
refusal_number (RouteShape p) = 12
refusal_number (RouteName p) = 13
refusal_number (RouteFit p) = 14
refusal_number (StartShared p) = 15
refusal_number NoMemory = 0

-- the place at which it is broken
abbrev pub refusal_place : NetRefusal → Place
refusal_place (Count p) = p
refusal_place (Twice p) = p
refusal_place (ArmCount p) = p
refusal_place (NoSegment p) = p
refusal_place (SameBox p) = p
refusal_place (Ends p) = p
refusal_place (At p) = p
refusal_place (RouteShape p) = p
refusal_place (RouteName p) = p
refusal_place (RouteFit p) = p
refusal_place (StartShared p) = p
refusal_place NoMemory = place.None

-- the number and the place are those of the draft's first refusal; want of memory says nothing of it
abbrev pub IsRefusal : Draft → NetRefusal → Type 0
IsRefusal d NoMemory = Unit {0}
IsRefusal d e = IsFirstRefusal d (refusal_number e) (refusal_place e)

-- the answer is right: the draft breaks no rule and this is its network, or this is its first refusal
abbrev pub IsRight : Draft → Result NetworkPlan NetRefusal → Type 0
IsRight d (Ok net) = IsAccepted d × (net ≡ network_of d)
IsRight d (Err e) = IsFirstRefusal d (refusal_number e) (refusal_place e)

-- the fact, unless the answer is that memory ran out
abbrev pub UnlessMemory : Result NetworkPlan NetRefusal → Type 0 → Type 0
UnlessMemory (Err NoMemory) P = Unit {0}
UnlessMemory _ P = P

-- the number and the place are those that a search found; want of memory says nothing of it
abbrev pub IsFound : NetRefusal → Option Refusal → Type 0
IsFound NoMemory first = Unit {0}
IsFound e first = first ≡ Some record { number = refusal_number e; place = refusal_place e }
