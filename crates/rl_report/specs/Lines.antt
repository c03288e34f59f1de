-- The lines that are left, where the next one was taken already.
use Rattle.std.specs.Prelude.{◌≡◌, ℕ, ◌+◌, ◌≤◌, List, [], ◌∷◌, Option, None, is_some, if◌then◌else◌}
use Rattle.std.specs.Option.{option_map_or}
use Rattle.rl_text.specs.Lines.{Line, Reading, longest_text}
use Rattle.rl_text.specs.declared.tokens.TextLine.{TextLine}

abbrev pub left_in : Option TextLine → List Line → List Line
left_in next lines =
    option_map_or (λ (line : TextLine). record { text = line.text.now; whole = line.whole } ∷ lines) next lines

-- the next line was taken, if there is one, and its number isn't too large
pub record Counts (given : ℕ) (next : Option TextLine) (tokens : Reading) : Type 0 where
  pub taken : tokens.given ≡ given + (if is_some next then 1 else 0)
  pub ended : next ≡ None → tokens.left ≡ []
  pub few : tokens.given ≤ longest_text
