-- The numbers of a form's words are small, and what must be there is there.
use Rattle.std.proofs.Common.{◌≡◌, ◌∙◌, ◌&&◌, ◌||◌, ◌<◌, ◌≤◌, ◌^◌, ℕ, Bool, true, false, cond, List, [], ◌∷◌, Option, Some, None, IfSome, refl, sym, ap, subst, true≢false, inl, inr, nat_le, arith, unwrap_or}
use Rattle.std.specs.Prelude.{bytes_eq, find, is_some, option_and_then, option_map, slice_get}
use Rattle.std.specs.List.{list_all}
use Rattle.std.proofs.lemmas.Bool.Decides.{nat_tests}
use Rattle.clap.proofs.WalkLemmas.{both}
use Rattle.rl_text.specs.Number.{number_of}
use Rattle.rl_cli.specs.Words.{Text, fits, number, within}
use Rattle.rl_cli.specs.Table.{item_of, name_of}
use Rattle.rl_cli.specs.Written.{fit, has_option, is_option_of}
use Rattle.rl_cli.specs.Orders.{are_options, pairs}
use Rattle.rl_cli.specs.declared.item.Item.{Item}
use Rattle.rl_cli.specs.declared.item.Item.TheVariants.{Number}
use Rattle.rl_cli.specs.declared.flag.Flag.{Flag}
use Rattle.rl_cli.specs.declared.flag.Flag.TheVariants.{Schedule, Tries, Workers, Round}
use Rattle.rl_cli.proofs.Rows.{bytes_eq-true, lookup}
use Rattle.rl_cli.proofs.Forms.{cut, either}

pub number_at_most : (least most : ℕ) (word : Text) → fits (Number least most) word ≡ true → number word ≤ most
number_at_most least most word e = go (number_of word) e
  where
    go : (o : Option ℕ) → is_some (option_and_then (within least most) o) ≡ true → unwrap_or o 0 ≤ most
    go None e = absurd (true≢false (sym e))
    go (Some n) e = in_range n (nat_le least n) (nat_le n most) refl e
      where
        in_range : (n : ℕ) (low high : Bool) → high ≡ nat_le n most → is_some (cond (low && high) (Some n) None) ≡ true → n ≤ most
        in_range n true true is e = grind (arith, nat_tests)
        in_range n true false is e = absurd (true≢false (sym e))
        in_range n false high is e = absurd (true≢false (sym e))

pub number_small : (least most : ℕ) (word : Text) → most < 2 ^ 32 → fits (Number least most) word ≡ true → number word < 2 ^ 32
number_small least most word lt e =
    let le = number_at_most least most word e in
    let bound : number word ≤ most = le in
    omega arith

pub numbers_small : (least most : ℕ) (o : Option Text) → most < 2 ^ 32 → IfSome o (λ w. fits (Number least most) w ≡ true) → IfSome o (λ w. number w < 2 ^ 32)
numbers_small least most None lt e = tt
numbers_small least most (Some w) lt e = number_small least most w lt e

-- no two options have one name
same_name : (f g : Flag) → bytes_eq (name_of f) (name_of g) ≡ true → f ≡ g
same_name Schedule Schedule e = refl
same_name Schedule Tries e = absurd (true≢false (sym e))
same_name Schedule Workers e = absurd (true≢false (sym e))
same_name Schedule Round e = absurd (true≢false (sym e))
same_name Tries Schedule e = absurd (true≢false (sym e))
same_name Tries Tries e = refl
same_name Tries Workers e = absurd (true≢false (sym e))
same_name Tries Round e = absurd (true≢false (sym e))
same_name Workers Schedule e = absurd (true≢false (sym e))
same_name Workers Tries e = absurd (true≢false (sym e))
same_name Workers Workers e = refl
same_name Workers Round e = absurd (true≢false (sym e))
same_name Round Schedule e = absurd (true≢false (sym e))
same_name Round Tries e = absurd (true≢false (sym e))
same_name Round Workers e = absurd (true≢false (sym e))
same_name Round Round e = refl

option_fits : (flags : List Flag) (flag : Flag) (p : Text × Text) → is_option_of flags p ≡ true → bytes_eq p.0 (name_of flag) ≡ true
    → fits (item_of flag) p.1 ≡ true
option_fits [] flag p e named = absurd (true≢false (sym e))
option_fits (f ∷ flags) flag p e named = elim (either _ _ e) [
  | inl h ↦
      let parts = both (bytes_eq p.0 (name_of f)) _ h in
      let same = same_name f flag (ap (λ (n : Text). bytes_eq n (name_of flag)) (sym (bytes_eq-true p.0 (name_of f) parts.0)) ∙ named) in
      subst (λ (g : Flag). fits (item_of g) p.1 ≡ true) same parts.1
  | inr h ↦ option_fits flags flag p h named
]

pub values_fit : (flags : List Flag) (flag : Flag) (given : List (Text × Text)) → list_all (is_option_of flags) given ≡ true
    → IfSome (lookup (name_of flag) given) (λ w. fits (item_of flag) w ≡ true)
values_fit flags flag [] e = tt
values_fit flags flag (p ∷ rest) e =
    let parts = both (is_option_of flags p) _ e in
    go (bytes_eq p.0 (name_of flag)) refl parts.0 (values_fit flags flag rest parts.1)
  where
    go : (b : Bool) → bytes_eq p.0 (name_of flag) ≡ b → is_option_of flags p ≡ true → IfSome (lookup (name_of flag) rest) (λ w. fits (item_of flag) w ≡ true)
        → IfSome (option_map (λ (q : Text × Text). q.1) (cond b (Some p) (find (λ q. bytes_eq q.0 (name_of flag)) rest))) (λ w. fits (item_of flag) w ≡ true)
    go true is e h = option_fits flags flag p e is
    go false is e h = h

-- the value of an option is what it must be
pub option_value_fits : (flags : List Flag) (words : List Text) (flag : Flag) → are_options flags words ≡ true
    → IfSome (lookup (name_of flag) (pairs words)) (λ w. fits (item_of flag) w ≡ true)
option_value_fits flags words flag e = values_fit flags flag (pairs words) (cut flags words e).1

abbrev value_or : Bool → Text × Text → Text → List (Text × Text) → Option Text
value_or b p name rest = option_map (λ (q : Text × Text). q.1) (cond b (Some p) (find (λ q. bytes_eq q.0 name) rest))

-- an option that is there has a value
pub there : (name : Text) (given : List (Text × Text)) → has_option given name ≡ true → lookup name given ≡ Some (unwrap_or (lookup name given) [])
there name [] e = absurd (true≢false (sym e))
there name (p ∷ rest) e = go (bytes_eq p.0 name) e (there name rest)
  where
    go : (b : Bool) → (b || has_option rest name) ≡ true → (has_option rest name ≡ true → lookup name rest ≡ Some (unwrap_or (lookup name rest) []))
        → value_or b p name rest ≡ Some (unwrap_or (value_or b p name rest) [])
    go true e h = refl
    go false e h = h e

pub first_fits : (item : Item) (words : List Text) → fit (item ∷ []) words ≡ true → fits item (unwrap_or (slice_get words 0) []) ≡ true
first_fits item [] e = absurd (true≢false (sym e))
first_fits item (w ∷ words) e = (both (fits item w) _ e).0

pub second_fits : (item item' : Item) (words : List Text) → fit (item ∷ item' ∷ []) words ≡ true → fits item' (unwrap_or (slice_get words 1) []) ≡ true
second_fits item item' [] e = absurd (true≢false (sym e))
second_fits item item' (w ∷ []) e = absurd (true≢false (sym ((both (fits item w) _ e).1)))
second_fits item item' (w ∷ w' ∷ words) e = (both (fits item' w') _ (both (fits item w) _ e).1).0
