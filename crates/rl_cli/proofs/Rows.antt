-- What a parse has found after some uses of arguments that take one value each: a row for each use, in order.
use Rattle.std.proofs.Common.{◌≡◌, ◌∙◌, ◌||◌, ℕ, Bool, true, false, not, cond, List, [], ◌∷◌, ◌++◌, map, Option, Some, None, refl, sym, ap, ap₂, nat_eq, ◌&&◌, arith, option_map, append-nil, true≢false}
use Rattle.std.specs.Prelude.{bytes_eq, option_and_then, slice_get, find}
use Rattle.std.proofs.lemmas.Bool.Decides.{nat_tests}
use Rattle.std.proofs.lemmas.Slice.Eq.{bytes_eq-Decides}
use Rattle.clap.specs.Walk.{Row, Text, at_row, has_row, more_values, with_values, without, first_of}
use Rattle.clap.specs.declared.parser.matches.ValueSource.TheVariants.{CommandLine}
use Rattle.clap.specs.declared.builder.value_parser.Reading.TheVariants.{AsWritten}
use Rattle.clap.proofs.WalkLemmas.{list_any-map}
use Rattle.rl_cli.specs.Written.{has_option}

pub neither : (a b : Bool) → (a || b) ≡ false → (a ≡ false) × (b ≡ false)
neither true b e = absurd (true≢false e)
neither false b e = (refl, e)

pub is_not : (b : Bool) → not b ≡ true → b ≡ false
is_not true e = absurd (true≢false (sym e))
is_not false e = refl

nat_eq-sym : (x y : ℕ) → nat_eq x y ≡ nat_eq y x
nat_eq-sym x y = grind (arith, nat_tests)

pub bytes_eq-true : (xs ys : List ℕ) → bytes_eq xs ys ≡ true → xs ≡ ys
bytes_eq-true xs ys e = (bytes_eq-Decides xs ys).0 e

pub bytes_eq-sym : (xs ys : List ℕ) → bytes_eq xs ys ≡ bytes_eq ys xs
bytes_eq-sym [] [] = refl
bytes_eq-sym [] (y ∷ ys) = refl
bytes_eq-sym (x ∷ xs) [] = refl
bytes_eq-sym (x ∷ xs) (y ∷ ys) = ap₂ (λ a b. a && b) (nat_eq-sym x y) (bytes_eq-sym xs ys)

-- the row of one use
abbrev pub as_row : Text × Text → Row
as_row p = record { id = p.0; values = p.1 ∷ []; count = None; source = Some CommandLine; reading = AsWritten }

at_new : (id : Text) (change : Row → List Row) (missing rows : List Row) → has_row id rows ≡ false → at_row id change missing rows ≡ rows ++ missing
at_new id change missing [] e = refl
at_new id change missing (r ∷ rs) e =
    let p = neither (bytes_eq r.id id) (has_row id rs) e in
    let here : bytes_eq r.id id ≡ false = p.0 in
    rw here (ap (λ xs. r ∷ xs) (at_new id change missing rs p.1))

-- a first use adds its row at the end
pub put_new : (id v : Text) (rows : List Row) → has_row id rows ≡ false
    → with_values id AsWritten CommandLine (v ∷ []) (without id rows) ≡ rows ++ as_row (id, v) ∷ []
put_new id v rows e =
    ap (with_values id AsWritten CommandLine (v ∷ [])) (at_new id (λ _. []) [] rows e ∙ append-nil rows)
    ∙ at_new id (more_values CommandLine (v ∷ [])) (as_row (id, v) ∷ []) rows e

pub has_row-map : (id : Text) (given : List (Text × Text)) → has_row id (map as_row given) ≡ has_option given id
has_row-map id given = sym (list_any-map (λ (r : Row). bytes_eq r.id id) as_row given)

-- what was given for an id
abbrev pub lookup : Text → List (Text × Text) → Option Text
lookup id given = option_map (λ p. p.1) (find (λ p. bytes_eq p.0 id) given)

pub first_of-map : (id : Text) (given : List (Text × Text)) → first_of id (map as_row given) ≡ lookup id given
first_of-map id [] = refl
first_of-map id (p ∷ rest) = go (bytes_eq p.0 id) (first_of-map id rest)
  where
    go : (b : Bool) → first_of id (map as_row rest) ≡ lookup id rest
        → option_and_then (λ (r : Row). slice_get r.values 0) (cond b (Some (as_row p)) (find (λ r. bytes_eq r.id id) (map as_row rest)))
        ≡ option_map (λ (q : Text × Text). q.1) (cond b (Some p) (find (λ q. bytes_eq q.0 id) rest))
    go true e = refl
    go false e = e
