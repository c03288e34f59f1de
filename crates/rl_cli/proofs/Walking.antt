-- How clap walks over options with their values.
use Rattle.std.proofs.Common.{◌≡◌, ◌∙◌, ◌&&◌, ◌||◌, ℕ, Bool, true, false, cond, not, subst, List, [], ◌∷◌, ◌++◌, map, Option, Some, None, refl, sym, ap, ap₂, append-nil, append_assoc, min, ◌+◌, ◌==◌}
use Rattle.std.specs.Prelude.{bytes_eq}
use Rattle.std.specs.List.{flat_map, fold, list_all}
use Rattle.clap.specs.Walk.{Held, Row, Rule, Walk, Text, arg_by_id, arg_by_index, is_pending, most_values, default_rows, finished, has_row, idle, is_empty, nothing_held, option, reading_by, rows_after, settled_rows, walk_from, walked, with_default, with_values, without}
use Rattle.clap.specs.Simple.{Shape, filled, new_rule, with_index}
use Rattle.clap.specs.Lexer.{usize_max}
use Rattle.clap.specs.Takes.{default_passes, is_valid, level_passes, settle_passes, turn_passes, walk_passes}
use Rattle.clap.specs.declared.parser.matches.ValueSource.TheVariants.{CommandLine}
use Rattle.clap.specs.declared.builder.value_parser.Reading.TheVariants.{AsWritten}
use Rattle.clap.proofs.WalkLemmas.{both}
use Rattle.rl_cli.specs.Words.{is_plain}
use Rattle.rl_cli.specs.Written.{has_option, is_each_once, two_words}
use Rattle.std.proofs.lemmas.List.{map-append}
use Rattle.std.proofs.lemmas.List.Folds.{list_any-append}
use Rattle.clap.proofs.SimpleLemmas.{is_nil}
use Rattle.rl_cli.proofs.Rows.{as_row, bytes_eq-sym, has_row-map, is_not, neither, put_new}

and_false : (b : Bool) → (b && false) ≡ false
and_false true = refl
and_false false = refl

-- a positional of a built command
abbrev pub positional_rule : Text → ℕ → Rule
positional_rule id i = with_index i (filled (new_rule id))

abbrev pub Pending : Type 0
Pending = Option (Text × List Text)

abbrev pub held : List Row → Pending → Held
held rows pending = record { rows = rows; pending = pending; skip = 0 }

-- the walk stands between two arguments
abbrev pub standing : List Row → Pending → ℕ → Walk
standing rows pending i = record { held = held rows pending; waiting = idle; position = i; is_trailing = false; stopped = None }

-- the walk waits for the value of an option
abbrev pub awaiting : List Row → Text → ℕ → Walk
awaiting rows id i = record { held = held rows (Some (id, [])); waiting = option id; position = i; is_trailing = false; stopped = None }

-- an argument that takes one value and may be used once
pub record IsArgument (c : List Rule) (id : Text) : Type 0 where
  pub settles : (v : Text) (rows : List Row) → settled_rows c (Some (id, v ∷ [])) rows ≡ with_values id AsWritten CommandLine (v ∷ []) (without id rows)
  pub passes : (v : Text) (rows : List Row) → has_row id rows ≡ false → settle_passes c false (held rows (Some (id, v ∷ []))) ≡ true

-- an option of this name, by the steps of the walk at its name and at its value
pub record IsOption (s : Shape) (name : Text) : Type 0 where
  pub argument : IsArgument s.rules name
  pub named : (rows : List Row) (p : Pending) (i : ℕ) → walked s.rules [] (standing rows p i) name ≡ awaiting (settled_rows s.rules p rows) name i
  pub named_passes : (rows : List Row) (p : Pending) (i : ℕ) → settle_passes s.rules false (held rows p) ≡ true
      → turn_passes s [] (standing rows p i) name ≡ true
  pub valued : (rows : List Row) (i : ℕ) (v : Text) → is_plain v ≡ true → walked s.rules [] (awaiting rows name i) v ≡ standing rows (Some (name, v ∷ [])) i
  pub valued_passes : (rows : List Row) (i : ℕ) (v : Text) → is_plain v ≡ true → turn_passes s [] (awaiting rows name i) v ≡ true

-- a walk over the words passes, and has then found what is given
pub record Finds (s : Shape) (w : Walk) (words : List Text) (given : List (Text × Text)) (i : ℕ) : Type 0 where
  pub rows : List Row
  pub pending : Pending
  pub end : fold (walked s.rules []) w words ≡ standing rows pending i
  pub passes : walk_passes s [] w words ≡ true
  pub settled : settled_rows s.rules pending rows ≡ map as_row given
  pub settles : settle_passes s.rules false (held rows pending) ≡ true

-- each option is one of the command's, and its value may be read as one
abbrev pub AreOptions : Shape → List (Text × Text) → Type 0
AreOptions s [] = Unit {0}
AreOptions s (p ∷ rest) = (IsOption s p.0 × (is_plain p.1 ≡ true)) × AreOptions s rest

-- no option has the name of one before
abbrev pub AreNew : List (Text × Text) → List (Text × Text) → Type 0
AreNew before [] = Unit {0}
AreNew before (p ∷ rest) = (has_option before p.0 ≡ false) × AreNew before rest

-- one word more, and then the rest
pub first_word : (s : Shape) (w next : Walk) (word : Text) (rest : List Text) (given : List (Text × Text)) (i : ℕ)
    → walked s.rules [] w word ≡ next → turn_passes s [] w word ≡ true → Finds s next rest given i → Finds s w (word ∷ rest) given i
unfolding walk_passes
first_word s w next word rest given i step turn found = record {
  rows = found.rows;
  pending = found.pending;
  end = ap (λ v. fold (walked s.rules []) v rest) step ∙ found.end;
  passes = ap₂ (λ a v. a && walk_passes s [] v rest) turn step ∙ found.passes;
  settled = found.settled;
  settles = found.settles;
}

-- what is found after the use of p, which is pending
pub settled_after : (c : List Rule) (rows : List Row) (before : List (Text × Text)) (p : Text × Text) → IsArgument c p.0 → rows ≡ map as_row before
    → has_option before p.0 ≡ false → settled_rows c (Some (p.0, p.1 ∷ [])) rows ≡ map as_row (before ++ p ∷ [])
settled_after c rows before p argument is new =
    argument.settles p.1 rows ∙ put_new p.0 p.1 rows (ap (has_row p.0) is ∙ has_row-map p.0 before ∙ new)
    ∙ ap (λ xs. xs ++ as_row p ∷ []) is ∙ sym (map-append as_row before (p ∷ []))

pub passes_after : (c : List Rule) (rows : List Row) (before : List (Text × Text)) (p : Text × Text) → IsArgument c p.0 → rows ≡ map as_row before
    → has_option before p.0 ≡ false → settle_passes c false (held rows (Some (p.0, p.1 ∷ []))) ≡ true
passes_after c rows before p argument is new = argument.passes p.1 rows (ap (has_row p.0) is ∙ has_row-map p.0 before ∙ new)

-- no option of a list has the name of one of a list that p ends
still_new : (before : List (Text × Text)) (p : Text × Text) (rest : List (Text × Text)) → AreNew before rest → has_option rest p.0 ≡ false
    → AreNew (before ++ p ∷ []) rest
still_new before p [] new apart = tt
still_new before p (q ∷ rest) new apart =
    let e = neither (bytes_eq q.0 p.0) (has_option rest p.0) apart in (
      list_any-append (λ (x : Text × Text). bytes_eq x.0 q.0) before (p ∷ []) ∙ ap₂ (λ a b. a || (b || false)) new.0 (bytes_eq-sym p.0 q.0
          ∙ e.0),
      still_new before p rest new.1 e.1,
    )

-- a walk over options with their values finds them
pub options_found : (s : Shape) (i : ℕ) (rows : List Row) (pending : Pending) (before given : List (Text × Text))
    → settled_rows s.rules pending rows ≡ map as_row before → settle_passes s.rules false (held rows pending) ≡ true
    → AreOptions s given → AreNew before given → is_each_once given ≡ true
    → Finds s (standing rows pending i) (flat_map two_words given) (before ++ given) i
unfolding walk_passes
options_found s i rows pending before [] settled settles options new once = record {
  rows = rows;
  pending = pending;
  end = refl;
  passes = refl;
  settled = settled ∙ ap (map as_row) (sym (append-nil before));
  settles = settles;
}
options_found s i rows pending before (p ∷ rest) settled settles options new once =
    let option = options.0.0 in
    let now = settled_rows s.rules pending rows in
    let apart = both (not (has_option rest p.0)) _ once in
    let found = options_found s i now (Some (p.0, p.1 ∷ [])) (before ++ p ∷ []) rest
    (settled_after s.rules now before p option.argument settled new.0) (passes_after s.rules now before p option.argument settled new.0)
    options.1 (still_new before p rest new.1 (is_not _ apart.0)) apart.1 in
    let all : (before ++ p ∷ []) ++ rest ≡ before ++ (p ∷ rest) = append_assoc before (p ∷ []) rest in
    let value = first_word s (awaiting now p.0 i) (standing now (Some (p.0, p.1 ∷ [])) i) p.1 (flat_map two_words rest) ((before ++ p ∷ []) ++ rest) i
    (option.valued now i p.1 options.0.1) (option.valued_passes now i p.1 options.0.1) found in
    subst (λ given. Finds s (standing rows pending i) (p.0 ∷ p.1 ∷ flat_map two_words rest) given i) all
    (first_word s (standing rows pending i) (awaiting now p.0 i) p.0 (p.1 ∷ flat_map two_words rest) ((before ++ p ∷ []) ++ rest) i
    (option.named rows pending i) (option.named_passes rows pending i settles) value)

-- ---- the steps of the walk at a word that doesn't begin with -

module _ (b : ℕ) (rest : Text) (no : (b == 45) ≡ false) where
  -- the value of an option
  pub value_walked : (c : List Rule) (name : Text) (a : Rule) (rows : List Row) (i : ℕ) → arg_by_id c name ≡ Some a → bytes_eq name a.id ≡ true
      → most_values a ≡ 1
      → walked c [] (awaiting rows name i) (b ∷ rest) ≡ standing rows (Some (name, (b ∷ rest) ∷ [])) i
  unfolding walked
  value_walked c name a rows i at same one = rw no (rw no (rw at (rw (same, one) refl)))

  pub value_passes : (s : Shape) (name : Text) (rows : List Row) (i : ℕ) → turn_passes s [] (awaiting rows name i) (b ∷ rest) ≡ true
  unfolding walked
  value_passes s name rows i = rw no (rw no refl)

  -- a positional
  pub positional_walked : (c : List Rule) (id : Text) (rows : List Row) (p : Pending) (i : ℕ) → arg_by_index c i ≡ Some (positional_rule id i)
      → walked c [] (standing rows p i) (b ∷ rest) ≡ standing (settled_rows c p rows) (Some (id, (b ∷ rest) ∷ [])) (min (i + 1) usize_max)
  unfolding walked
  positional_walked c id rows p i at =
      let none : (is_pending (positional_rule id i) p && false) ≡ false = and_false (is_pending (positional_rule id i) p) in
      rw no (rw no (rw at (rw none refl)))

  pub positional_passes_at : (s : Shape) (id : Text) (rows : List Row) (p : Pending) (i : ℕ) → arg_by_index s.rules i ≡ Some (positional_rule id i)
      → settle_passes s.rules s.args_override_self (held rows p) ≡ true → turn_passes s [] (standing rows p i) (b ∷ rest) ≡ true
  unfolding walked
  positional_passes_at s id rows p i at settles =
      let none : (is_pending (positional_rule id i) p && false) ≡ false = and_false (is_pending (positional_rule id i) p) in
      rw no (rw no (rw at (rw (none, settles) refl)))

-- ---- a whole parse

-- nothing stands in place of an argument that isn't given, and none must be
pub record IsLoose (s : Shape) : Type 0 where
  pub defaults : list_all (λ (a : Rule). is_empty a.defaults) s.rules ≡ true
  pub defaults_pass : list_all default_passes s.rules ≡ true
  pub valid : (rows : List Row) → is_valid s rows false ≡ true

default_stays : (rows : List Row) (a : Rule) → is_empty a.defaults ≡ true → with_default rows a ≡ rows
default_stays rows a e =
    let none : a.defaults ≡ [] = is_nil a.defaults e in
    ap (λ (d : List Text). cond (has_row a.id rows) rows (default_rows a.id (reading_by a) d rows)) none ∙ go (has_row a.id rows)
  where
    go : (b : Bool) → cond b rows rows ≡ rows
    go true = refl
    go false = refl

pub defaults_stay : (rules : List Rule) (rows : List Row) → list_all (λ (a : Rule). is_empty a.defaults) rules ≡ true → fold with_default rows rules ≡ rows
defaults_stay [] rows e = refl
defaults_stay (a ∷ rules) rows e =
    let h = both (is_empty a.defaults) _ e in
    ap (λ r. fold with_default r rules) (default_stays rows a h.0) ∙ defaults_stay rules rows h.1

pub conj : (a b : Bool) → a ≡ true → b ≡ true → (a && b) ≡ true
conj true b e f = f
conj false b e f = e

pub level_found : (s : Shape) (words : List Text) (given : List (Text × Text)) (i : ℕ) → s.args_override_self ≡ false → IsLoose s
    → Finds s (walk_from nothing_held) words given i
    → (level_passes s [] nothing_held words false ≡ true) × (rows_after s.rules [] words ≡ map as_row given)
level_found s words given i single loose found =
    let last = held found.rows found.pending in
    let checks = λ (w : Walk). walk_passes s [] (walk_from nothing_held) words && (settle_passes s.rules s.args_override_self w.held
    && (list_all default_passes s.rules && is_valid s (finished s.rules w.held) false)) in
    let settles : settle_passes s.rules s.args_override_self last ≡ true = ap (λ b. settle_passes s.rules b last) single ∙ found.settles in (
      ap checks found.end ∙ conj _ _ found.passes (conj _ _ settles (conj _ _ loose.defaults_pass (loose.valid (finished s.rules last)))),
      ap (λ (w : Walk). finished s.rules w.held) found.end ∙ defaults_stay s.rules (settled_rows s.rules found.pending found.rows) loose.defaults
          ∙ found.settled,
    )
