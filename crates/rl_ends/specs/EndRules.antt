-- The rules 21 to 25 of segments with ends, by their numbers: where they are broken, and which refusal is the first.
use Rattle.std.specs.Prelude.{◌≡◌, ℕ, zero, suc, ◌+◌, ◌*◌, ◌<◌, ◌==◌, nat_lt, Bool, true, false, not, ◌&&◌, ◌||◌, ◌⊎◌, if◌then◌else◌, List, take, slice_get, is_some, is_none}
use Rattle.std.specs.Option.{option_map_or}
use Rattle.rl_base.specs.Kind.{arms_of}
use Rattle.rl_base.specs.Place.{IsNoLater}
use Rattle.rl_base.specs.declared.place.Place.{Place}
use Rattle.rl_base.specs.declared.place.Place.TheVariants as place
use Rattle.rl_model.specs.declared.network.SegmentEnd.{SegmentEnd}
use Rattle.rl_ends.specs.EndNames.{end_of}
use Rattle.rl_ends.specs.EndsDrafts.{texts_of, box_names, named_arm, named_arms, end_number}
use Rattle.rl_ends.specs.declared.ends_draft.EndsBox.{EndsBox}
use Rattle.rl_ends.specs.declared.ends_draft.EndsDraft.{EndsDraft}

-- a test of the text of end k, false where there is none
abbrev pub on_text : EndsDraft → ℕ → (List ℕ → Bool) → Bool
on_text d k test = option_map_or test (slice_get (texts_of d.segments) k) false

-- a test of the arm that end k names, false where it names none
abbrev pub on_arm : EndsDraft → ℕ → (SegmentEnd → Bool) → Bool
on_arm d k test = option_map_or (λ o. option_map_or test o false) (slice_get (named_arms d) k) false

-- the box has such an arm
abbrev pub has_arm : EndsDraft → SegmentEnd → Bool
has_arm d e = option_map_or (λ (x : EndsBox). nat_lt e.arm.0 (arms_of x.kind)) (slice_get d.boxes e.at.0) false

-- end k breaks the rule of that number: it isn't the text of an end; it names no box; its box has no such arm; an end
-- before it names the same arm of the same box
abbrev pub end_breaks : EndsDraft → ℕ → ℕ → Bool
end_breaks d n k =
    if n == 21 then on_text d k (λ text. is_none (end_of text))
    else (if n == 22 then on_text d k (λ text. is_some (end_of text) && is_none (named_arm (box_names d) text))
    else (if n == 23 then on_arm d k (λ e. not (has_arm d e))
    else (n == 24 && on_arm d k (λ e. is_some (end_number (take k (named_arms d)) e.at.0 e.arm.0)))))

-- the test passes at a number below n
abbrev pub any_below : (ℕ → Bool) → ℕ → Bool
any_below test zero = false
any_below test (suc n) = any_below test n || test n

-- no end names one of the arms of box b
abbrev pub has_free_arm : EndsDraft → ℕ → EndsBox → Bool
has_free_arm d b x = any_below (λ arm. is_none (end_number (named_arms d) b arm)) (arms_of x.kind)

-- the rule of that number is broken at the place
abbrev pub breaks : EndsDraft → ℕ → Place → Bool
breaks d n (place.SegEnd i j) = nat_lt j 2 && end_breaks d n (2 * i + j)
breaks d n (place.BoxItem i) = n == 25 && option_map_or (has_free_arm d i) (slice_get d.boxes i) false
breaks d n _ = false

-- no rule is broken
abbrev pub IsUnbroken : EndsDraft → Type 0
IsUnbroken d = (n : ℕ) (p : Place) → breaks d n p ≡ false

-- of the rules that are broken n is the one with the lowest number, and p the first place at which it is
pub record IsFirstOf (broken_at : ℕ → Place → Bool) (n : ℕ) (p : Place) : Type 0 where
  pub broken : broken_at n p ≡ true
  pub least : (m : ℕ) (q : Place) → broken_at m q ≡ true → (n < m) ⊎ ((n ≡ m) × IsNoLater p q)
