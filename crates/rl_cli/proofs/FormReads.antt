-- What is found at the words of each form.
use Rattle.std.proofs.Common.{◌≡◌, ◌∙◌, ◌&&◌, ◌||◌, Bool, true, false, List, [], ◌∷◌, drop, take, length, Option, Some, Result, Ok, Err, IsErrAnd, subst, IfSome, lit<, refl, sym, ap, true≢false, codes, nat_le}
use Rattle.std.specs.List.{list_all}
use Rattle.std.specs.Prelude.{bytes_eq, slice_get, unwrap_or, not}
use Rattle.clap.specs.Walk.{Text, arg_by_index, first_of}
use Rattle.clap.specs.Simple.{HasMatchesOf, is_simple}
use Rattle.clap.specs.Takes.{takes}
use Rattle.clap.specs.Matches.{first_value, found_of}
use Rattle.clap.specs.declared.parser.matches.ArgMatches.{ArgMatches}
use Rattle.clap.proofs.WalkLemmas.{both, first_value-rows}
use Rattle.rl_base.specs.declared.limits.TheConstants.{MIN_TRIES, MAX_TRIES, MAX_ROUNDS, MIN_ROUND, MAX_ROUND, MAX_WORKERS, MAX_MAKE}
use Rattle.rl_cli.specs.Words.{IsSmall, fits}
use Rattle.rl_cli.specs.Table.{item_of, name_of, audit, check, drive, make, rounds, run, rounds_asked, schedule_of, stations_asked, value, word}
use Rattle.rl_cli.specs.Written.{fit, has_option, is_option_of}
use Rattle.rl_cli.specs.Orders.{Answers, are_options, given_in, is_after_name, is_in, pairs}
use Rattle.rl_cli.specs.Apps.{app_with}
use Rattle.rl_cli.specs.declared.item.Item.{Item}
use Rattle.rl_cli.specs.declared.item.Item.TheVariants.{File}
use Rattle.rl_cli.specs.declared.flag.Flag.{Flag}
use Rattle.rl_cli.specs.declared.flag.Flag.TheVariants.{Schedule, Tries, Workers, Round}
use Rattle.rl_cli.specs.declared.fault.CliFault.{CliFault}
use Rattle.rl_cli.specs.declared.fault.CliFault.TheVariants.{Usage, NoMemory}
use Rattle.rl_cli.proofs.Rows.{first_of-map, lookup}
use Rattle.rl_cli.proofs.Walking.{IsArgument, IsLoose, conj, positional_rule}
use Rattle.rl_cli.proofs.Forms.{AreNoFlags, HasOptions, fits_plain, one_found, two_found}
use Rattle.rl_cli.proofs.Numbers.{first_fits, number_small, numbers_small, option_value_fits, second_fits, there}
use Rattle.rl_cli.proofs.Commands.{Reads, drive_flags, drive_ids, drive_loose, drive_schedule, drive_shape, drive_simple, drive_tries, one_loose, one_simple, parse_reads, run_flags, run_ids, run_loose, run_round, run_shape, run_simple, run_tries, run_workers, shape_with, two_loose, two_simple}

-- what the getters give
pub value_found : (ids : List Text) (flags : List Flag) (words : List Text) (given : List (Text × Text)) (m : ArgMatches) → Reads ids flags words given
    → is_simple (app_with ids flags) ≡ true → HasMatchesOf (app_with ids flags) words m → (id : Text) → first_value (found_of m) id ≡ lookup id given
value_found ids flags words given m reads simple has id =
    first_value-rows (found_of m) id ∙ ap (first_of id) ((has simple).0 ∙ reads.matches) ∙ first_of-map id given

or_right : (a b : Bool) → b ≡ true → (a || b) ≡ true
or_right true b e = refl
or_right false b e = e

-- a fault at something that is there is one of memory
pub fault_at : {T U : Type 0} (u : U) (found : Option T) (t : T) (e : CliFault) → found ≡ Some t → Answers found (Err e) → Answers (Some u) (Err e)
fault_at u found t Usage is answers = cc
fault_at u found t NoMemory is answers = refl

-- the same through `?`
pub passed_on : {T : Type 0} (r : Result T CliFault) (u : T) (e : CliFault) → IsErrAnd r (λ y. y ≡ e) → Answers {T = T} (Some u) (Err e) → Answers (Some u) r
passed_on (Ok x) u e is answers = absurd is
passed_on (Err y) u e is answers = subst (λ (z : CliFault). Answers (Some u) (Err z)) (sym is) answers

-- the command takes the words of the form, so it fails for memory alone
pub fails_for_memory : {U : Type 0} (u : U) (ids ids' : List Text) (flags flags' : List Flag) (words words' : List Text) (given : List
    (Text × Text)) (e : CliFault)
    → ids' ≡ ids → flags' ≡ flags → words' ≡ words → Reads ids flags words given → (takes (app_with ids' flags') words' ≡ true → e ≡ NoMemory)
    → Answers (Some u) (Err e)
fails_for_memory {U} u ids ids' flags flags' words words' given e a b w reads fails =
    subst (λ (z : CliFault). Answers {T = U} (Some u) (Err z)) (sym (fails ((λ i. takes (app_with (a i) (b i)) (w i)) ∙ reads.takes))) refl

-- what a getter gives, where the command is as it is
pub value_read : (ids ids' : List Text) (flags flags' : List Flag) (words words' : List Text) (given : List (Text × Text)) (m : ArgMatches)
    → ids' ≡ ids → flags' ≡ flags → words' ≡ words → Reads ids flags words given → is_simple (app_with ids flags) ≡ true
    → HasMatchesOf (app_with ids' flags') words' m
    → (id : Text) → first_value (found_of m) id ≡ lookup id given
value_read ids ids' flags flags' words words' given m a b w reads simple has =
    value_found ids flags words given m reads simple (subst (λ (ws : List Text). HasMatchesOf (app_with ids flags) ws m) w
    (subst (λ (fs : List Flag). HasMatchesOf (app_with ids fs) words' m) b (subst (λ (xs : List Text). HasMatchesOf (app_with xs flags') words' m) a has)))

-- ---- the parts of a form's words

pub record HasParts (items : List Item) (flags musts : List Flag) (words : List Text) : Type 0 where
  pub enough : nat_le (length items) (length words) ≡ true
  pub positionals : fit items (take (length items) words) ≡ true
  pub options : are_options flags (drop (length items) words) ≡ true
  pub needed : list_all (λ flag. has_option (pairs (drop (length items) words)) (name_of flag)) musts ≡ true

pub parts : (items : List Item) (flags musts : List Flag) (words : List Text) → is_after_name items flags musts words ≡ true
    → HasParts items flags musts words
unfolding is_after_name
parts items flags musts words e =
    let p = both (nat_le (length items) (length words)) _ e in
    let q = both (fit items (take (length items) words)) _ p.1 in
    let r = both (are_options flags (drop (length items) words)) _ q.1 in
    record { enough = p.0; positionals = q.0; options = r.0; needed = r.1 }

argument_net : IsArgument (shape_with (codes "NET" ∷ []) []).rules (codes "NET")
argument_net = record { settles = λ v rows. refl; passes = λ v rows e. rw e refl }

no_flags : (word : Text) → AreNoFlags ((codes "NET", word) ∷ [])
no_flags word Schedule = refl
no_flags word Tries = refl
no_flags word Workers = refl
no_flags word Round = refl

-- NET and options
net_reads : (flags musts : List Flag) (words : List Text) → is_simple (app_with (codes "NET" ∷ []) flags) ≡ true
    → IsLoose (shape_with (codes "NET" ∷ []) flags)
    → arg_by_index (shape_with (codes "NET" ∷ []) flags).rules 1 ≡ Some (positional_rule (codes "NET") 1)
    → IsArgument (shape_with (codes "NET" ∷ []) flags).rules (codes "NET") → HasOptions (shape_with (codes "NET" ∷ []) flags) flags
    → is_after_name (File ∷ []) flags musts (drop 1 words) ≡ true
    → Reads (codes "NET" ∷ []) flags words ((codes "NET", unwrap_or (slice_get (drop 1 words) 0) []) ∷ pairs (drop 1 (drop 1 words)))
net_reads flags musts [] simple loose at argument has e = absurd (true≢false (sym (parts (File ∷ []) flags musts [] e).enough))
net_reads flags musts (name ∷ []) simple loose at argument has e = absurd (true≢false (sym (parts (File ∷ []) flags musts [] e).enough))
net_reads flags musts (name ∷ net ∷ words) simple loose at argument has e =
    let p = parts (File ∷ []) flags musts (net ∷ words) e in
    parse_reads (codes "NET" ∷ []) flags name (net ∷ words) ((codes "NET", net) ∷ pairs words) _ simple loose
    (one_found (shape_with (codes "NET" ∷ []) flags) (codes "NET") flags net words at argument refl has (no_flags net) (both _ _ p.positionals).0 p.options)

pub check_reads : (words : List Text) → is_in check words ≡ true
    → Reads (codes "NET" ∷ []) [] words ((codes "NET", word (given_in check (drop 1 words)) 0) ∷ (given_in check (drop 1 words)).options)
check_reads [] e = absurd (true≢false (sym (parts (File ∷ []) [] [] [] e).enough))
check_reads (name ∷ []) e = absurd (true≢false (sym (parts (File ∷ []) [] [] [] e).enough))
check_reads (name ∷ net ∷ words) e = net_reads [] [] (name ∷ net ∷ words) (one_simple (codes "NET")) (one_loose (codes "NET")) refl argument_net tt e

run_net : IsArgument run_shape.rules (codes "NET")
run_net = record { settles = λ v rows. refl; passes = λ v rows e. rw e refl }

pub run_reads : (words : List Text) → is_in run words ≡ true
    → Reads run_ids run_flags words ((codes "NET", word (given_in run (drop 1 words)) 0) ∷ (given_in run (drop 1 words)).options)
run_reads [] e = absurd (true≢false (sym (parts (File ∷ []) run_flags [] [] e).enough))
run_reads (name ∷ []) e = absurd (true≢false (sym (parts (File ∷ []) run_flags [] [] e).enough))
run_reads (name ∷ net ∷ words) e = net_reads run_flags [] (name ∷ net ∷ words) run_simple run_loose refl run_net (run_tries, (run_workers, (run_round, tt))) e

-- drive with -s stands in the command of drive, without its second positional
drive_net : IsArgument drive_shape.rules (codes "NET")
drive_net = record { settles = λ v rows. refl; passes = λ v rows e. rw e refl }

drive_n : IsArgument drive_shape.rules (codes "N")
drive_n = record { settles = λ v rows. refl; passes = λ v rows e. rw e refl }

drive_has : HasOptions drive_shape drive_flags
drive_has = (drive_schedule, (drive_tries, tt))

pub drive_reads : (words : List Text) → is_in drive words ≡ true
    → Reads drive_ids drive_flags words ((codes "NET", word (given_in drive (drop 1 words)) 0) ∷ (given_in drive (drop 1 words)).options)
drive_reads [] e = absurd (true≢false (sym (parts (File ∷ []) drive_flags (Schedule ∷ []) [] e).enough))
drive_reads (name ∷ []) e = absurd (true≢false (sym (parts (File ∷ []) drive_flags (Schedule ∷ []) [] e).enough))
drive_reads (name ∷ net ∷ words) e =
    let p = parts (File ∷ []) drive_flags (Schedule ∷ []) (net ∷ words) e in
    parse_reads drive_ids drive_flags name (net ∷ words) ((codes "NET", net) ∷ pairs words) _ drive_simple drive_loose
    (one_found drive_shape (codes "NET") drive_flags net words refl drive_net refl drive_has (no_flags net) (both _ _ p.positionals).0 p.options)

-- and drive with N beside --tries alone
rounds_options : (words : List Text) → are_options (Tries ∷ []) words ≡ true → are_options drive_flags words ≡ true
rounds_options [] e = refl
rounds_options (name ∷ []) e = e
rounds_options (name ∷ value ∷ rest) e =
    let p = both (is_option_of (Tries ∷ []) (name, value)) _ e in
    let q = both (not (has_option (pairs rest) name)) _ p.1 in
    conj _ _ (or_right (bytes_eq name (name_of Schedule) && fits (item_of Schedule) value) _ p.0) (conj _ _ q.0 (rounds_options rest q.1))

two_no_flags : (net n : Text) → AreNoFlags ((codes "NET", net) ∷ (codes "N", n) ∷ [])
two_no_flags net n Schedule = refl
two_no_flags net n Tries = refl
two_no_flags net n Workers = refl
two_no_flags net n Round = refl

pub rounds_reads : (words : List Text) → is_in rounds words ≡ true
    → Reads drive_ids drive_flags words ((codes "NET", word (given_in rounds (drop 1 words)) 0) ∷ (codes "N", word (given_in rounds (drop 1 words)) 1)
    ∷ (given_in rounds (drop 1 words)).options)
rounds_reads [] e = absurd (true≢false (sym (parts (File ∷ rounds_asked ∷ []) (Tries ∷ []) [] [] e).enough))
rounds_reads (name ∷ []) e = absurd (true≢false (sym (parts (File ∷ rounds_asked ∷ []) (Tries ∷ []) [] [] e).enough))
rounds_reads (name ∷ net ∷ []) e = absurd (true≢false (sym (parts (File ∷ rounds_asked ∷ []) (Tries ∷ []) [] (net ∷ []) e).enough))
rounds_reads (name ∷ net ∷ n ∷ words) e =
    let p = parts (File ∷ rounds_asked ∷ []) (Tries ∷ []) [] (net ∷ n ∷ words) e in
    let f = both (fits File net) _ p.positionals in
    let g = both (fits rounds_asked n) _ f.1 in
    parse_reads drive_ids drive_flags name (net ∷ n ∷ words) ((codes "NET", net) ∷ (codes "N", n) ∷ pairs words) _ drive_simple drive_loose
    (two_found drive_shape (codes "NET") (codes "N") drive_flags net n words refl refl drive_net drive_n refl refl drive_has (two_no_flags net n)
    f.0 (fits_plain rounds_asked n g.0) (rounds_options words p.options))

audit_net : IsArgument (shape_with (codes "NET" ∷ codes "REPORT" ∷ []) []).rules (codes "NET")
audit_net = record { settles = λ v rows. refl; passes = λ v rows e. rw e refl }

audit_report : IsArgument (shape_with (codes "NET" ∷ codes "REPORT" ∷ []) []).rules (codes "REPORT")
audit_report = record { settles = λ v rows. refl; passes = λ v rows e. rw e refl }

audit_no_flags : (net report : Text) → AreNoFlags ((codes "NET", net) ∷ (codes "REPORT", report) ∷ [])
audit_no_flags net report Schedule = refl
audit_no_flags net report Tries = refl
audit_no_flags net report Workers = refl
audit_no_flags net report Round = refl

pub audit_reads : (words : List Text) → is_in audit words ≡ true
    → Reads (codes "NET" ∷ codes "REPORT" ∷ []) [] words ((codes "NET", word (given_in audit (drop 1 words)) 0) ∷ (
      codes "REPORT",
      word
          (given_in audit (drop 1 words)) 1,
    )
    ∷ (given_in audit (drop 1 words)).options)
audit_reads [] e = absurd (true≢false (sym (parts (File ∷ File ∷ []) [] [] [] e).enough))
audit_reads (name ∷ []) e = absurd (true≢false (sym (parts (File ∷ File ∷ []) [] [] [] e).enough))
audit_reads (name ∷ net ∷ []) e = absurd (true≢false (sym (parts (File ∷ File ∷ []) [] [] (net ∷ []) e).enough))
audit_reads (name ∷ net ∷ report ∷ words) e =
    let p = parts (File ∷ File ∷ []) [] [] (net ∷ report ∷ words) e in
    let f = both (fits File net) _ p.positionals in
    let g = both (fits File report) _ f.1 in
    parse_reads (codes "NET" ∷ codes "REPORT" ∷ []) [] name (net ∷ report ∷ words) ((codes "NET", net) ∷ (codes "REPORT", report) ∷ pairs words) _
    (two_simple (codes "NET") (codes "REPORT")) (two_loose (codes "NET") (codes "REPORT"))
    (two_found (shape_with (codes "NET" ∷ codes "REPORT" ∷ []) []) (codes "NET")
    (codes "REPORT") [] net report words refl refl audit_net audit_report refl refl tt
    (audit_no_flags net report) f.0 g.0 p.options)

make_n : IsArgument (shape_with (codes "N" ∷ []) []).rules (codes "N")
make_n = record { settles = λ v rows. refl; passes = λ v rows e. rw e refl }

make_no_flags : (n : Text) → AreNoFlags ((codes "N", n) ∷ [])
make_no_flags n Schedule = refl
make_no_flags n Tries = refl
make_no_flags n Workers = refl
make_no_flags n Round = refl

pub make_reads : (words : List Text) → is_in make words ≡ true
    → Reads (codes "N" ∷ []) [] words ((codes "N", word (given_in make (drop 1 words)) 0) ∷ (given_in make (drop 1 words)).options)
make_reads [] e = absurd (true≢false (sym (parts (stations_asked ∷ []) [] [] [] e).enough))
make_reads (name ∷ []) e = absurd (true≢false (sym (parts (stations_asked ∷ []) [] [] [] e).enough))
make_reads (name ∷ n ∷ words) e =
    let p = parts (stations_asked ∷ []) [] [] (n ∷ words) e in
    let f = both (fits stations_asked n) _ p.positionals in
    parse_reads (codes "N" ∷ []) [] name (n ∷ words) ((codes "N", n) ∷ pairs words) _ (one_simple (codes "N")) (one_loose (codes "N"))
    (one_found (shape_with (codes "N" ∷ []) []) (codes "N") [] n words refl make_n refl tt (make_no_flags n) (fits_plain stations_asked n f.0) p.options)

-- ---- the numbers of the forms, and what must be there

pub small_as : (found o : Option Text) → found ≡ o → IfSome o IsSmall → IfSome found IsSmall
small_as found o is small = subst (λ (x : Option Text). IfSome x IsSmall) (sym is) small

pub rounds_numbers : (words : List Text) → is_in rounds words ≡ true
    → IsSmall (word (given_in rounds (drop 1 words)) 1) × IfSome (value (given_in rounds (drop 1 words)) Tries) IsSmall
rounds_numbers words e =
    let p = parts (File ∷ rounds_asked ∷ []) (Tries ∷ []) [] (drop 1 words) e in (
      number_small 0 MAX_ROUNDS _ (lit< tt) (second_fits File rounds_asked (take 2 (drop 1 words)) p.positionals),
      numbers_small MIN_TRIES MAX_TRIES _ (lit< tt) (option_value_fits (Tries ∷ []) (drop 2 (drop 1 words)) Tries p.options),
    )

pub drive_numbers : (words : List Text) → is_in drive words ≡ true
    → (value (given_in drive (drop 1 words)) Schedule ≡ Some (schedule_of (given_in drive (drop 1 words))))
    × IfSome (value (given_in drive (drop 1 words)) Tries) IsSmall
drive_numbers words e =
    let p = parts (File ∷ []) drive_flags (Schedule ∷ []) (drop 1 words) e in (
      there (name_of Schedule) (pairs (drop 1 (drop 1 words))) (both _ _ p.needed).0,
      numbers_small MIN_TRIES MAX_TRIES _ (lit< tt) (option_value_fits drive_flags (drop 1 (drop 1 words)) Tries p.options),
    )

pub run_numbers : (words : List Text) → is_in run words ≡ true
    → IfSome (value (given_in run (drop 1 words)) Tries) IsSmall × IfSome (value (given_in run (drop 1 words)) Workers) IsSmall
    × IfSome (value (given_in run (drop 1 words)) Round) IsSmall
run_numbers words e =
    let p = parts (File ∷ []) run_flags [] (drop 1 words) e in (
      numbers_small MIN_TRIES MAX_TRIES _ (lit< tt) (option_value_fits run_flags (drop 1 (drop 1 words)) Tries p.options),
      numbers_small 1 MAX_WORKERS _ (lit< tt) (option_value_fits run_flags (drop 1 (drop 1 words)) Workers p.options),
      numbers_small MIN_ROUND MAX_ROUND _ (lit< tt) (option_value_fits run_flags (drop 1 (drop 1 words)) Round p.options),
    )

pub make_numbers : (words : List Text) → is_in make words ≡ true → IsSmall (word (given_in make (drop 1 words)) 0)
make_numbers words e =
    let p = parts (stations_asked ∷ []) [] [] (drop 1 words) e in
    number_small 1 MAX_MAKE _ (lit< tt) (first_fits stations_asked (take 1 (drop 1 words)) p.positionals)
