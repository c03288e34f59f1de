-- The refusal of segments with ends: its number, its place, that it is the first, and the one answer that is right.
use Rattle.std.specs.Prelude.{◌≡◌, ℕ, true, false, Result, Ok, Err}
use Rattle.rl_base.specs.Place.{IsNoLater}
use Rattle.rl_base.specs.declared.draft.Draft.{Draft}
use Rattle.rl_base.specs.declared.place.Place.{Place}
use Rattle.rl_base.specs.declared.place.Place.TheVariants as place
use Rattle.rl_ends.specs.EndsDrafts.{draft_of}
use Rattle.rl_ends.specs.EndRules.{breaks, IsUnbroken, IsFirstOf}
use Rattle.rl_ends.specs.declared.ends_draft.EndsDraft.{EndsDraft}
use Rattle.rl_ends.specs.declared.refusal.EndRefusal.{EndRefusal}
use Rattle.rl_ends.specs.declared.refusal.EndRefusal.TheVariants.{EndText, NoBox, NoArm, ArmTwice, ArmFree, NoMemory}

-- the number of the rule that is broken, 0 for want of memory
abbrev pub refusal_number : EndRefusal → ℕ
refusal_number (EndText p) = 21
refusal_number (NoBox p) = 22
refusal_number (NoArm p) = 23
refusal_number (ArmTwice p) = 24
refusal_number (ArmFree p) = 25
refusal_number NoMemory = 0

-- the place at which it is broken
abbrev pub refusal_place : EndRefusal → Place
refusal_place (EndText p) = p
refusal_place (NoBox p) = p
refusal_place (NoArm p) = p
refusal_place (ArmTwice p) = p
refusal_place (ArmFree p) = p
refusal_place NoMemory = place.None

-- the number and the place are those of the first refusal; want of memory says nothing of it
abbrev pub IsRefusal : EndsDraft → EndRefusal → Type 0
IsRefusal d NoMemory = Unit {0}
IsRefusal d e = IsFirstOf (breaks d) (refusal_number e) (refusal_place e)

-- the answer is right: no rule is broken and this is the draft, or this is the first refusal
abbrev pub IsRight : EndsDraft → Result Draft EndRefusal → Type 0
IsRight d (Ok draft) = IsUnbroken d × (draft ≡ draft_of d)
IsRight d (Err e) = IsFirstOf (breaks d) (refusal_number e) (refusal_place e)

-- the fact, unless the answer is that memory ran out
abbrev pub UnlessMemory : Result Draft EndRefusal → Type 0 → Type 0
UnlessMemory (Err NoMemory) P = Unit {0}
UnlessMemory _ P = P

-- rule n is broken nowhere
abbrev pub IsKept : EndsDraft → ℕ → Type 0
IsKept d n = (p : Place) → breaks d n p ≡ false

-- p is the first place at which rule n is broken
pub record IsFirstBreak (d : EndsDraft) (n : ℕ) (p : Place) : Type 0 where
  pub broken : breaks d n p ≡ true
  pub least : (q : Place) → breaks d n q ≡ true → IsNoLater p q

-- the refusal is by rule n, at the first place at which it is broken; want of memory says nothing
abbrev pub RefusesBy : EndsDraft → ℕ → EndRefusal → Type 0
RefusesBy d n NoMemory = Unit {0}
RefusesBy d n e = (refusal_number e ≡ n) × IsFirstBreak d n (refusal_place e)
