-- The order that the words have, as a function, is the order for which they are written in a form of the table.
use Rattle.std.proofs.Common.{◌≡◌, ◌∙◌, ◌&&◌, ◌<◌, ◌≤◌, ℕ, Bool, true, false, cond, not, List, [], ◌∷◌, ◌++◌, Option, Some, None, inl, inr, refl, sym, ap, ap₂, subst, true≢false, arith, take, drop, length, nat_le, get_or, Result, Ok, Err, IfOk, IsSome, codes}
use Rattle.std.specs.Prelude.{bytes_eq}
use Rattle.std.specs.List.{flat_map, list_all}
use Rattle.std.proofs.lemmas.Bool.Decides.{nat_tests}
use Rattle.std.proofs.lemmas.List.{length-append, take-append-drop}
use Rattle.std.proofs.Math.Seq.{drop-append_seam, take-append_seam}
use Rattle.clap.proofs.WalkLemmas.{both}
use Rattle.rl_cli.specs.Words.{Text, fits, is_plain}
use Rattle.rl_cli.specs.Table.{Form, Given, item_of, name_of, forms, check, tables, rounds, drive, run, audit, make, rounds_asked}
use Rattle.rl_cli.specs.Written.{IsAskedFor, IsWritten, IsWrittenAs, IsWrittenIn, fit, has_option, is_each_once, is_option_of, two_words, words_in}
use Rattle.rl_cli.specs.Orders.{Answers, are_options, given_in, is_after_name, or_else, order_after, order_among, order_in, order_named, order_of, pairs}
use Rattle.rl_cli.specs.declared.item.Item.{Item}
use Rattle.rl_cli.specs.declared.item.Item.TheVariants.{File}
use Rattle.rl_cli.specs.declared.flag.Flag.{Flag}
use Rattle.rl_cli.specs.declared.flag.Flag.TheVariants.{Schedule, Tries, Workers, Round}
use Rattle.rl_cli.specs.declared.order.Order.{Order}
use Rattle.rl_cli.specs.declared.fault.CliFault.{CliFault}
use Rattle.rl_cli.specs.declared.fault.CliFault.TheVariants.{Usage, NoMemory}
use Rattle.rl_cli.proofs.Rows.{bytes_eq-true}
use Rattle.rl_cli.proofs.Walking.{conj}
use Rattle.rl_cli.proofs.Forms.{cut, either, fits_plain}
use Rattle.rl_cli.proofs.Numbers.{second_fits}
use Rattle.rl_cli.proofs.FormReads.{parts}

-- ---- what the function gives is written

after_written : (f : Form) (words : List Text) (order : Order) → order_after f words ≡ Some order → IsWrittenAs f (f.name ∷ words) order
after_written f words order e = go (is_after_name f.positionals f.options f.needs words) refl e
  where
    go : (b : Bool) → is_after_name f.positionals f.options f.needs words ≡ b → cond b (Some (f.order (given_in f words))) None ≡ Some order
        → IsWrittenAs f (f.name ∷ words) order
    go true is e =
        let p = parts f.positionals f.options f.needs words is in
        let n = length f.positionals in
        let q = cut f.options (drop n words) p.options in
        record {
          given = given_in f words;
          asked = record { positionals = p.positionals; options = q.1; once = q.2; needed = p.needed };
          spelled = ap (λ ws. f.name ∷ ws) (sym (ap (λ ws. take n words ++ ws) q.0 ∙ take-append-drop n words));
          gives = cc;
        }
    go false is e = cc

in_written : (f : Form) (words : List Text) (order : Order) → order_in f words ≡ Some order → IsWrittenAs f words order
in_written f [] order e = cc
in_written f (name ∷ words) order e = go (bytes_eq name f.name) refl e
  where
    go : (b : Bool) → bytes_eq name f.name ≡ b → cond b (order_after f words) None ≡ Some order → IsWrittenAs f (name ∷ words) order
    go true is e = subst (λ (n : Text). IsWrittenAs f (n ∷ words) order) (sym (bytes_eq-true name f.name is)) (after_written f words order e)
    go false is e = cc

pub among_written : (fs : List Form) (words : List Text) (order : Order) → order_among fs words ≡ Some order → IsWrittenIn fs words order
among_written [] words order e = cc
among_written (f ∷ fs) words order e = go (order_in f words) refl e (among_written fs words order)
  where
    go : (o : Option Order) → order_in f words ≡ o → or_else o (order_among fs words) ≡ Some order
        → (order_among fs words ≡ Some order → IsWrittenIn fs words order) → IsWrittenIn (f ∷ fs) words order
    go (Some o) is e more = inl (in_written f words order (is ∙ e))
    go None is e more = inr (more e)

-- ---- and what is written is what the function gives

pairs_of_two_words : (given : List (Text × Text)) → pairs (flat_map two_words given) ≡ given
pairs_of_two_words [] = refl
pairs_of_two_words (p ∷ rest) = ap (λ ps. p ∷ ps) (pairs_of_two_words rest)

are_options_given : (flags : List Flag) (given : List (Text × Text)) → list_all (is_option_of flags) given ≡ true → is_each_once given ≡ true
    → are_options flags (flat_map two_words given) ≡ true
are_options_given flags [] options once = refl
are_options_given flags (p ∷ rest) options once =
    let h = both (is_option_of flags p) _ options in
    let k = both (not (has_option rest p.0)) _ once in
    conj _ _ h.0 (conj _ _ (ap (λ ps. not (has_option ps p.0)) (pairs_of_two_words rest) ∙ k.0) (are_options_given flags rest h.1 k.1))

fit_length : (items : List Item) (words : List Text) → fit items words ≡ true → length words ≡ length items
fit_length [] [] e = refl
fit_length [] (w ∷ words) e = absurd (true≢false (sym e))
fit_length (i ∷ items) [] e = absurd (true≢false (sym e))
fit_length (i ∷ items) (w ∷ words) e =
    let rest : length words ≡ length items = fit_length items words (both (fits i w) _ e).1 in
    grind arith

front : (ps qs : List Text) (n : ℕ) → length ps ≡ n → take n (ps ++ qs) ≡ ps
front ps qs n e = ap (λ k. take k (ps ++ qs)) (sym e) ∙ take-append_seam ps qs

back : (ps qs : List Text) (n : ℕ) → length ps ≡ n → drop n (ps ++ qs) ≡ qs
back ps qs n e = ap (λ k. drop k (ps ++ qs)) (sym e) ∙ drop-append_seam ps qs

enough : (ps qs : List Text) (n : ℕ) → length ps ≡ n → nat_le n (length (ps ++ qs)) ≡ true
enough ps qs n e =
    let le : n ≤ length (ps ++ qs) = simp length-append (omega arith) in
    grind (arith, nat_tests)

after_complete : (f : Form) (g : Given) → IsAskedFor f g → order_after f (g.positionals ++ flat_map two_words g.options) ≡ Some (f.order g)
unfolding is_after_name
after_complete f g asked =
    let n = length f.positionals in
    let ps = g.positionals in
    let qs = flat_map two_words g.options in
    let len = fit_length f.positionals ps asked.positionals in
    let start : take n (ps ++ qs) ≡ ps = front ps qs n len in
    let end : drop n (ps ++ qs) ≡ qs = back ps qs n len in
    let options : pairs (drop n (ps ++ qs)) ≡ g.options = ap pairs end ∙ pairs_of_two_words g.options in
    let test : is_after_name f.positionals f.options f.needs (ps ++ qs) ≡ true =
    conj _ _ (enough ps qs n len) (conj _ _ (ap (fit f.positionals) start ∙ asked.positionals)
    (conj _ _ (ap (are_options f.options) end ∙ are_options_given f.options g.options asked.options asked.once)
    (ap (λ (o : List (Text × Text)). list_all (λ flag. has_option o (name_of flag)) f.needs) options ∙ asked.needed))) in
    let given : given_in f (ps ++ qs) ≡ g = λ i. record { positionals = start i; options = options i } in
    ap₂ (λ (b : Bool) (x : Given). cond b (Some (f.order x)) None) test given

-- the name of an option begins with -
option_begins : (flag : Flag) → is_plain (name_of flag) ≡ false
option_begins Schedule = refl
option_begins Tries = refl
option_begins Workers = refl
option_begins Round = refl

begins : (flags : List Flag) (p : Text × Text) → is_option_of flags p ≡ true → is_plain p.0 ≡ false
begins [] p e = absurd (true≢false (sym e))
begins (flag ∷ flags) p e = elim (either (bytes_eq p.0 (name_of flag) && fits (item_of flag) p.1) _ e) [
  | inl h ↦ ap is_plain (bytes_eq-true p.0 (name_of flag) (both (bytes_eq p.0 (name_of flag)) (fits (item_of flag) p.1) h).0) ∙ option_begins flag
  | inr h ↦ begins flags p h
]

-- the words of drive with -s are none of drive with N
no_rounds : (ps : List Text) (options : List (Text × Text)) → fit (File ∷ []) ps ≡ true → list_all (is_option_of (Schedule ∷ Tries ∷ [])) options ≡ true
    → has_option options (name_of Schedule) ≡ true
    → is_after_name (File ∷ rounds_asked ∷ []) (Tries ∷ []) [] (ps ++ flat_map two_words options) ≡ true → ⊥
no_rounds [] options fits all has e = true≢false (sym fits)
no_rounds (net ∷ []) [] fits all has e = true≢false (sym has)
no_rounds (net ∷ []) (p ∷ rest) fits all has e =
    let q = parts (File ∷ rounds_asked ∷ []) (Tries ∷ []) [] (net ∷ p.0 ∷ p.1 ∷ flat_map two_words rest) e in
    true≢false (sym (fits_plain rounds_asked p.0 (second_fits File rounds_asked (net ∷ p.0 ∷ []) q.positionals))
    ∙ begins (Schedule ∷ Tries ∷ []) p (both (is_option_of (Schedule ∷ Tries ∷ []) p) _ all).0)
no_rounds (net ∷ w ∷ ws) options fits all has e = true≢false (sym (both _ _ fits).1)

no_rounds_after : (g : Given) → IsAskedFor drive g → order_after rounds (g.positionals ++ flat_map two_words g.options) ≡ None
no_rounds_after g asked =
    let words = g.positionals ++ flat_map two_words g.options in
    go (is_after_name (File ∷ rounds_asked ∷ []) (Tries ∷ []) [] words)
    (no_rounds g.positionals g.options asked.positionals asked.options (both (has_option g.options (name_of Schedule)) _ asked.needed).0)
  where
    go : (b : Bool) → (b ≡ true → ⊥) → cond b (Some (rounds.order (given_in rounds (g.positionals ++ flat_map two_words g.options)))) None ≡ None
    go true never = absurd (never refl)
    go false never = refl

first_is : (x next : Option Order) (order : Order) → x ≡ Some order → or_else x next ≡ Some order
first_is x next order e = ap (λ o. or_else o next) e

second_is : (x y next : Option Order) (order : Order) → x ≡ None → y ≡ Some order → or_else x (or_else y next) ≡ Some order
second_is x y next order e f = ap₂ (λ o p. or_else o (or_else p next)) e f

pub written_complete : (words : List Text) (order : Order) → IsWritten words order → order_of words ≡ Some order
unfolding order_of IsWritten
written_complete words order written = elim written [
  | inl w ↦ ap order_of w.spelled ∙ first_is (order_in check (words_in check w.given)) (order_among
      (tables ∷ rounds ∷ drive ∷ run ∷ audit ∷ make ∷ []) (words_in check w.given)) order
      (after_complete check w.given w.asked ∙ ap Some (sym w.gives))
  | inr w ↦ elim w [
    | inl w ↦ ap order_of w.spelled ∙ first_is (order_in tables (words_in tables w.given)) (order_among (rounds ∷ drive ∷ run ∷ audit ∷ make ∷ [])
        (words_in tables w.given)) order
        (after_complete tables w.given w.asked ∙ ap Some (sym w.gives))
    | inr w ↦ elim w [
      | inl w ↦ ap order_of w.spelled ∙ first_is (order_in rounds (words_in rounds w.given)) (order_among (drive ∷ run ∷ audit ∷ make ∷ [])
          (words_in rounds w.given)) order
          (after_complete rounds w.given w.asked ∙ ap Some (sym w.gives))
      | inr w ↦ elim w [
        | inl w ↦ ap order_of w.spelled ∙ second_is (order_in rounds (words_in drive w.given)) (order_in drive (words_in drive w.given))
            (order_among (run ∷ audit ∷ make ∷ []) (words_in drive w.given)) order (no_rounds_after w.given w.asked)
            (after_complete drive w.given w.asked ∙ ap Some (sym w.gives))
        | inr w ↦ elim w [
          | inl w ↦ ap order_of w.spelled ∙ first_is (order_in run (words_in run w.given)) (order_among (audit ∷ make ∷ []) (words_in run w.given)) order
              (after_complete run w.given w.asked ∙ ap Some (sym w.gives))
          | inr w ↦ elim w [
            | inl w ↦ ap order_of w.spelled ∙ first_is (order_in audit (words_in audit w.given)) (order_among (make ∷ []) (words_in audit w.given)) order
                (after_complete audit w.given w.asked ∙ ap Some (sym w.gives))
            | inr w ↦ elim w [
              | inl w ↦ ap order_of w.spelled ∙ first_is (order_in make (words_in make w.given)) None order (after_complete make w.given w.asked
                  ∙ ap Some (sym w.gives))
              | inr w ↦ absurd w
            ]
          ]
        ]
      ]
    ]
  ]
]

-- ---- by the name first

or_none : (x : Option Order) → or_else x None ≡ x
or_none (Some o) = refl
or_none None = refl

-- the name is this one, or another
at_name : (name this : Text) (P : Text → Type 0) → P this → (bytes_eq name this ≡ false → P name) → P name
at_name name this P here other = go (bytes_eq name this) refl
  where
    go : (b : Bool) → bytes_eq name this ≡ b → P name
    go true is = subst P (sym (bytes_eq-true name this is)) here
    go false is = other is

pub order_by_name : (name : Text) (words : List Text) → order_of (name ∷ words) ≡ order_named name words
unfolding order_of
order_by_name name words =
    let P : Text → Type 0 = λ n. order_of (n ∷ words) ≡ order_named n words in
    at_name name (codes "check") P (or_none (order_after check words)) (λ e1.
    at_name name (codes "tables") P (or_none (order_after tables words)) (λ e2.
    at_name name (codes "drive") P (ap (or_else (order_after rounds words)) (or_none (order_after drive words))) (λ e3.
    at_name name (codes "run") P (or_none (order_after run words)) (λ e4.
    at_name name (codes "audit") P (or_none (order_after audit words)) (λ e5.
    at_name name (codes "make") P (or_none (order_after make words)) (λ e6. rw (e1, e2, e3, e4, e5, e6) refl))))))

-- ---- what the answers of a parse say

pub none_of_no_words : (words : List Text) → length words < 1 → order_of words ≡ None
unfolding order_of
none_of_no_words [] none = refl
none_of_no_words (w ∷ ws) none = absurd (omega arith)

pub order_by_first : (words : List Text) (name : Text) → 1 ≤ length words → name ≡ get_or words 0 name → order_of words ≡ order_named name (drop 1 words)
order_by_first [] name some first = absurd (omega arith)
order_by_first (w ∷ ws) name some first = ap (λ (n : Text). order_of (n ∷ ws)) (sym first) ∙ order_by_name name ws

pub answers_written : (words : List Text) (r : Result Order CliFault) → Answers (order_of words) r → IfOk r (IsWritten words)
unfolding order_of IsWritten
answers_written words (Ok order) answers = among_written forms words order answers
answers_written words (Err fault) answers = tt

pub answers_usage : (words : List Text) (r : Result Order CliFault) → Answers (order_of words) r → r ≡ Err Usage → (order : Order) → IsWritten words order → ⊥
answers_usage words r answers is order written =
    let none : order_of words ≡ None = subst (λ (x : Result Order CliFault). Answers (order_of words) x) is answers in
    let some = written_complete words order written in
    cc

pub usage_answers : (words : List Text) (r : Result Order CliFault) → Answers (order_of words) r → ((order : Order) → IsWritten words order → ⊥)
    → r ≡ Err Usage
usage_answers words (Ok order) answers none = absurd (none order (answers_written words (Ok order) answers))
usage_answers words (Err Usage) answers none = refl
usage_answers words (Err NoMemory) answers none = go (order_of words) refl answers
  where
    go : (o : Option Order) → order_of words ≡ o → IsSome o → ◌≡◌ {A = Result Order CliFault} (Err NoMemory) (Err Usage)
    go None is there = absurd (true≢false (sym there))
    go (Some order) is there = absurd (none order (answers_written words (Ok order) is))
