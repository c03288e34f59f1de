-- The text of an end: the name of a box, a dot, and one digit from 0 to 3 for the arm.
use Rattle.std.specs.Prelude.{◌≡◌, ℕ, ◌+◌, ◌-◌, ◌<◌, ◌==◌, nat_le, ◌&&◌, IsTrue, List, [], ◌∷◌, ◌++◌, length, take, drop, codes, Option, Some, None, option_map, if◌then◌else◌}
use Rattle.rl_base.specs.Name.{is_name}

-- a box by its name, and the number of one of its arms
pub record EndName : Type 0 where
  pub name : List ℕ
  pub arm : ℕ

-- the text that names this arm of the box of that name
abbrev pub end_text : List ℕ → ℕ → List ℕ
end_text name arm = name ++ codes "." ++ (48 + arm) ∷ []

-- the text says this box and this arm
pub record SaysEnd (text : List ℕ) (e : EndName) : Type 0 where
  pub spelled : text ≡ end_text e.name e.arm
  pub name : IsTrue (is_name e.name)
  pub arm : e.arm < 4

-- the arm that a dot and one digit from 0 to 3 say
abbrev pub arm_after_dot : List ℕ → Option ℕ
arm_after_dot (dot ∷ digit ∷ []) = if dot == 46 && nat_le 48 digit && nat_le digit 51 then Some (digit - 48) else None
arm_after_dot _ = None

-- the name in front of the last two bytes, and the arm that these say
abbrev pub end_parts : List ℕ → List ℕ → Option EndName
end_parts name rest =
    if is_name name then option_map (λ arm. record { name = name; arm = arm }) (arm_after_dot rest) else None

-- the box and the arm that a text says, if it says any
abbrev pub end_of : List ℕ → Option EndName
end_of text = end_parts (take (length text - 2) text) (drop (length text - 2) text)
