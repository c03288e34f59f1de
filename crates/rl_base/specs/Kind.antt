-- The kinds of boxes and the sides of points: the arms of each, what it connects, and the words for them.
use Rattle.std.specs.Prelude.{ℕ, ◌==◌, Bool, false, ◌&&◌, ◌||◌, List, codes, Option, Some, None, if◌then◌else◌}
use Rattle.rl_base.specs.declared.kind.Kind.{Kind}
use Rattle.rl_base.specs.declared.kind.Kind.TheVariants.{Buffer, Joint, Point, Crossing}
use Rattle.rl_base.specs.declared.kind.Side.{Side}
use Rattle.rl_base.specs.declared.kind.Side.TheVariants.{Left, Right}

-- how many arms a box of the kind has
abbrev pub arms_of : Kind → ℕ
arms_of Buffer = 1
arms_of Joint = 2
arms_of Point = 3
arms_of Crossing = 4

-- x and y are these two arms, in either order
abbrev pub are_arms : ℕ → ℕ → ℕ → ℕ → Bool
are_arms x y first second = (x == first && y == second) || (x == second && y == first)

-- a box of the kind connects arms x and y where it stands at the side. Only a point looks at the side
abbrev pub arms_join : Kind → ℕ → ℕ → Side → Bool
arms_join Buffer x y side = false
arms_join Joint x y side = are_arms x y 0 1
arms_join Point x y Left = are_arms x y 0 1
arms_join Point x y Right = are_arms x y 0 2
arms_join Crossing x y side = are_arms x y 0 1 || are_arms x y 2 3

-- the side at which the box connects x and y, left where it does at both, and none where at neither
abbrev pub joining_side : Kind → ℕ → ℕ → Option Side
joining_side kind x y = if arms_join kind x y Left then Some Left else
    (if arms_join kind x y Right then Some Right else None)

-- the words for them in a network and in what is printed
abbrev pub kind_word : Kind → List ℕ
kind_word Buffer = codes "buffer"
kind_word Joint = codes "joint"
kind_word Point = codes "point"
kind_word Crossing = codes "crossing"

abbrev pub side_word : Side → List ℕ
side_word Left = codes "left"
side_word Right = codes "right"
