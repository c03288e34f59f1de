-- The line as the protocol sees it: what each box and each train knows, and that these parts fit each other.
use Rattle.std.specs.Prelude.{◌≡◌, ◌≢◌, ℕ, ◌+◌, ◌<◌, ◌==◌, Bool, true, false, ◌||◌, Option, Some, None}
use Rattle.std.specs.Option.{option_map_or}
use Rattle.rl_base.specs.declared.ids.SegId.{SegId}
use Rattle.rl_base.specs.declared.ids.TrainId.{TrainId}
use Rattle.rl_base.specs.declared.kind.Kind.{Kind}
use Rattle.rl_base.specs.declared.kind.Side.{Side}
use Rattle.rl_tables.specs.declared.table.NextRow.{NextRow}
use Rattle.rl_tables.specs.declared.table.StepRow.{StepRow}
use Rattle.rl_tables.specs.Kept.{can_join, next_in}
use Rattle.rl_train.specs.Jobs.{at, looks_ahead}

-- what boxes and trains know. Boxes, arms, trains and steps are given by their numbers; a place is an arm of a box
pub record Line : Type 0 where
  pub kind : ℕ → Kind  -- of a box
  pub side : ℕ → Side  -- at which a box stands at the start
  pub has_arm : ℕ → ℕ → Bool  -- box, arm
  pub segment : ℕ → ℕ → SegId  -- the one at a place: box, arm
  pub first_holder : ℕ → ℕ → Option TrainId  -- who holds the segment at a place at the start: box, arm
  pub steps : ℕ → ℕ  -- how many a train's route has
  pub row : ℕ → ℕ → StepRow  -- train, step
  pub ends : ℕ → ℕ → ℕ → ℕ → Bool  -- train, k, box, arm: segment k of the train's route has an end at the place

-- the number is there, and is n
abbrev pub is_number : Option ℕ → ℕ → Bool
is_number o n = option_map_or (λ m. m == n) o false

-- both numbers are there, and are the same
abbrev pub same_number : Option ℕ → Option ℕ → Bool
same_number None p = false
same_number (Some n) p = is_number p n

-- the train holds what this holder holds
abbrev pub is_held_by : ℕ → Option TrainId → Bool
is_held_by t None = false
is_held_by t (Some u) = u.0 == t

-- the ends of the segments of a step are the places in its row, and its box can connect the two. What the row looks ahead
-- to is in the row after it, and no place is an end of both the segment where the step begins and the one beyond
pub record IsStepOf (line : Line) (t k : ℕ) (row : StepRow) : Type 0 where
  pub here : (b x : ℕ) → line.ends t k b x ≡ (at row.b row.x b x || at row.a row.a_arm b x)
  pub ahead : (b x : ℕ) → line.ends t (k + 1) b x ≡ (at row.b row.y b x || at row.c row.c_arm b x)
  pub apart : (b x : ℕ) → line.ends t k b x ≡ true → line.ends t (k + 1) b x ≡ false
  pub back_apart : row.a.0 ≢ row.b.0
  pub far_apart : row.c.0 ≢ row.b.0
  pub joined : can_join (line.kind row.b.0) row.x.0 row.y.0 ≡ true
  pub next_is : (n : NextRow) → row.next ≡ Some n → n ≡ next_in (line.row t (k + 1))
  pub more : looks_ahead row ≡ true → k + 1 < line.steps t
  pub beyond_apart : looks_ahead row ≡ true → (b x : ℕ) → line.ends t k b x ≡ true → line.ends t (k + 2) b x ≡ false

-- each row is right, ends are arms, a box with an arm has its first one, and a train holds at the start exactly the ends
-- of its first segment
pub record IsConsistent (line : Line) : Type 0 where
  pub rows : (t k : ℕ) → k < line.steps t → IsStepOf line t k (line.row t k)
  pub arms : (t k b x : ℕ) → line.ends t k b x ≡ true → line.has_arm b x ≡ true
  pub first_arm : (b x : ℕ) → line.has_arm b x ≡ true → line.has_arm b 0 ≡ true
  pub first : (t b x : ℕ) → is_held_by t (line.first_holder b x) ≡ line.ends t 0 b x
