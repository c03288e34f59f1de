-- What a parse finds at the words of a form.
use Rattle.std.proofs.Common.{◌≡◌, ◌∙◌, ◌&&◌, ◌||◌, ◌⊎◌, inl, inr, ℕ, Bool, true, false, cond, not, List, [], ◌∷◌, Option, Some, None, refl, sym, ap, subst, true≢false, ◌==◌, nat_lt, length, arith, min, ◌+◌}
use Rattle.std.specs.Prelude.{bytes_eq, is_some, option_and_then}
use Rattle.std.proofs.lemmas.Bool.Decides.{nat_tests}
use Rattle.std.specs.List.{flat_map, list_all}
use Rattle.clap.specs.Walk.{Text, arg_by_index, nothing_held, settled_rows, walk_from}
use Rattle.clap.specs.Takes.{settle_passes}
use Rattle.clap.specs.Simple.{Shape}
use Rattle.clap.specs.Lexer.{usize_max}
use Rattle.clap.proofs.WalkLemmas.{both}
use Rattle.rl_text.specs.Number.{number_of}
use Rattle.rl_cli.specs.Words.{fits, is_plain, number_in, within}
use Rattle.rl_cli.specs.Table.{name_of, item_of}
use Rattle.rl_cli.specs.Written.{has_option, is_each_once, is_option_of, two_words}
use Rattle.rl_cli.specs.Orders.{are_options, pairs}
use Rattle.rl_cli.specs.declared.item.Item.{Item}
use Rattle.rl_cli.specs.declared.item.Item.TheVariants.{File, Number}
use Rattle.rl_cli.specs.declared.flag.Flag.{Flag}
use Rattle.rl_cli.proofs.Rows.{bytes_eq-true, is_not}
use Rattle.rl_cli.proofs.Walking.{AreNew, AreOptions, Finds, IsArgument, IsOption, conj, first_word, held, options_found, passes_after, positional_passes_at, positional_rule, positional_walked, settled_after, standing}

pub either : (a b : Bool) → (a || b) ≡ true → (a ≡ true) ⊎ (b ≡ true)
either true b e = inl refl
either false b e = inr e

-- ---- what fits doesn't begin with -

minus_is_none : (rest : Text) → number_of (45 ∷ rest) ≡ None
unfolding number_of
minus_is_none rest = go (nat_lt 0 (length (45 ∷ rest))) _ _ _
  where
    go : (x y z : Bool) (n : ℕ) → cond (((x && false) && y) && z) (Some n) None ≡ None
    go true y z n = refl
    go false y z n = refl

empty_is_none : number_of [] ≡ None
unfolding number_of
empty_is_none = refl

number_plain : (least most b : ℕ) (rest : Text) (x : Bool) → (b == 45) ≡ x → is_some (number_in least most (b ∷ rest)) ≡ true → not x ≡ true
number_plain least most b rest false is e = refl
number_plain least most b rest true is e =
    let same : b ≡ 45 = grind (arith, nat_tests) in
    absurd (true≢false (sym e ∙ ap (λ (c : ℕ). is_some (number_in least most (c ∷ rest))) same
    ∙ ap (λ (o : Option ℕ). is_some (option_and_then (within least most) o)) (minus_is_none rest)))

pub fits_plain : (item : Item) (word : Text) → fits item word ≡ true → is_plain word ≡ true
fits_plain File word e = e
fits_plain (Number least most) [] e = absurd (true≢false (sym e ∙ ap (λ (o : Option ℕ). is_some (option_and_then (within least most) o)) empty_is_none))
fits_plain (Number least most) (b ∷ rest) e = number_plain least most b rest (b == 45) refl e

-- ---- options

-- the words are those of the options that they give
pub cut : (flags : List Flag) (words : List Text) → are_options flags words ≡ true
    → (flat_map two_words (pairs words) ≡ words) × (list_all (is_option_of flags) (pairs words) ≡ true) × (is_each_once (pairs words) ≡ true)
cut flags [] e = (refl, refl, refl)
cut flags (name ∷ []) e = absurd (true≢false (sym e))
cut flags (name ∷ value ∷ rest) e =
    let p = both (is_option_of flags (name, value)) _ e in
    let q = both (not (has_option (pairs rest) name)) _ p.1 in
    let r = cut flags rest q.1 in
    (ap (λ xs. name ∷ value ∷ xs) r.0, conj _ _ p.0 r.1, conj _ _ q.0 r.2)

-- the command has each of these options
abbrev pub HasOptions : Shape → List Flag → Type 0
HasOptions s [] = Unit {0}
HasOptions s (flag ∷ flags) = IsOption s (name_of flag) × HasOptions s flags

-- none of these names is an option's
abbrev pub AreNoFlags : List (Text × Text) → Type 0
AreNoFlags before = (flag : Flag) → has_option before (name_of flag) ≡ false

option_is : (s : Shape) (flags : List Flag) (before : List (Text × Text)) (p : Text × Text) → HasOptions s flags → AreNoFlags before
    → is_option_of flags p ≡ true → (IsOption s p.0 × (is_plain p.1 ≡ true)) × (has_option before p.0 ≡ false)
option_is s [] before p has apart e = absurd (true≢false (sym e))
option_is s (flag ∷ flags) before p has apart e = elim (either _ _ e) [
  | inl h ↦
      let parts = both (bytes_eq p.0 (name_of flag)) _ h in
      let same = sym (bytes_eq-true p.0 (name_of flag) parts.0) in
      ((subst (IsOption s) same has.0, fits_plain (item_of flag) p.1 parts.1), subst (λ (n : Text). has_option before n ≡ false) same (apart flag))
  | inr h ↦ option_is s flags before p has.1 apart h
]

options_are : (s : Shape) (flags : List Flag) (before given : List (Text × Text)) → HasOptions s flags → AreNoFlags before
    → list_all (is_option_of flags) given ≡ true → AreOptions s given × AreNew before given
options_are s flags before [] has apart e = (tt, tt)
options_are s flags before (p ∷ rest) has apart e =
    let parts = both (is_option_of flags p) _ e in
    let one = option_is s flags before p has apart parts.0 in
    let more = options_are s flags before rest has apart parts.1 in
    ((one.0, more.0), (one.1, more.1))

-- ---- positionals, and then options

pub one_found : (s : Shape) (id : Text) (flags : List Flag) (word : Text) (words : List Text) → arg_by_index s.rules 1 ≡ Some (positional_rule id 1)
    → IsArgument s.rules id → s.args_override_self ≡ false → HasOptions s flags → AreNoFlags ((id, word) ∷ [])
    → is_plain word ≡ true → are_options flags words ≡ true → Finds s (walk_from nothing_held) (word ∷ words) ((id, word) ∷ pairs words) (min
    (1 + 1) usize_max)
one_found s id flags [] words at argument single has apart plain options = absurd (true≢false (sym plain))
one_found s id flags (b ∷ rest) words at argument single has apart plain options =
    let word : Text = b ∷ rest in
    let no = is_not (b == 45) plain in
    let p : Text × Text = (id, word) in
    let parts = cut flags words options in
    let are = options_are s flags (p ∷ []) (pairs words) has apart parts.1 in
    let found = options_found s (min (1 + 1) usize_max) [] (Some (id, word ∷ [])) (p ∷ []) (pairs words)
    (settled_after s.rules [] [] p argument refl refl) (passes_after s.rules [] [] p argument refl refl) are.0 are.1 parts.2 in
    first_word s (standing [] None 1) _ word words (p ∷ pairs words) (min (1 + 1) usize_max)
    (positional_walked b rest no s.rules id [] None 1 at) (positional_passes_at b rest no s id [] None 1 at refl)
    (subst (λ (ws : List Text). Finds s (standing [] (Some (id, word ∷ [])) (min (1 + 1) usize_max)) ws (p ∷ pairs words) (min
    (1 + 1) usize_max)) parts.0 found)

pub two_found : (s : Shape) (id id' : Text) (flags : List Flag) (word word' : Text) (words : List Text)
    → arg_by_index s.rules 1 ≡ Some (positional_rule id 1) → arg_by_index s.rules 2 ≡ Some (positional_rule id' 2)
    → IsArgument s.rules id → IsArgument s.rules id' → bytes_eq id id' ≡ false → s.args_override_self ≡ false
    → HasOptions s flags → AreNoFlags ((id, word) ∷ (id', word') ∷ [])
    → is_plain word ≡ true → is_plain word' ≡ true → are_options flags words ≡ true
    → Finds s (walk_from nothing_held) (word ∷ word' ∷ words) ((id, word) ∷ (id', word') ∷ pairs words) (min (2 + 1) usize_max)
two_found s id id' flags [] word' words at at' argument argument' differ single has apart plain plain' options = absurd (true≢false (sym plain))
two_found s id id' flags (b ∷ rest) [] words at at' argument argument' differ single has apart plain plain' options = absurd (true≢false (sym plain'))
two_found s id id' flags (b ∷ rest) (b' ∷ rest') words at at' argument argument' differ single has apart plain plain' options =
    let word : Text = b ∷ rest in
    let word' : Text = b' ∷ rest' in
    let no = is_not (b == 45) plain in
    let no' = is_not (b' == 45) plain' in
    let p : Text × Text = (id, word) in
    let p' : Text × Text = (id', word') in
    let rows = settled_rows s.rules (Some (id, word ∷ [])) [] in
    let settled = settled_after s.rules [] [] p argument refl refl in
    let passes : settle_passes s.rules s.args_override_self (held [] (Some (id, word ∷ []))) ≡ true =
    ap (λ b. settle_passes s.rules b (held [] (Some (id, word ∷ [])))) single ∙ passes_after s.rules [] [] p argument refl refl in
    let new : has_option (p ∷ []) id' ≡ false = ap (λ b. b || false) differ in
    let parts = cut flags words options in
    let are = options_are s flags (p ∷ p' ∷ []) (pairs words) has apart parts.1 in
    let found = options_found s (min (2 + 1) usize_max) rows (Some (id', word' ∷ [])) (p ∷ p' ∷ []) (pairs words)
    (settled_after s.rules rows (p ∷ []) p' argument' settled new) (passes_after s.rules rows (p ∷ []) p' argument' settled new) are.0 are.1 parts.2 in
    let second = first_word s (standing [] (Some (id, word ∷ [])) 2) _ word' words (p ∷ p' ∷ pairs words) (min (2 + 1) usize_max)
    (positional_walked b' rest' no' s.rules id' [] (Some (id, word ∷ [])) 2 at') (positional_passes_at b' rest' no' s id' [] (Some
    (id, word ∷ [])) 2 at' passes)
    (subst (λ (ws : List Text). Finds s (standing rows (Some (id', word' ∷ [])) (min (2 + 1) usize_max)) ws (p ∷ p' ∷ pairs words) (min
    (2 + 1) usize_max)) parts.0 found) in
    first_word s (standing [] None 1) _ word (word' ∷ words) (p ∷ p' ∷ pairs words) (min (2 + 1) usize_max)
    (positional_walked b rest no s.rules id [] None 1 at) (positional_passes_at b rest no s id [] None 1 at refl) second
