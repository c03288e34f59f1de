-- The simple commands that read the forms, as they are built, and what a parse by one of them finds.
use Rattle.std.proofs.Common.{◌≡◌, ℕ, true, false, List, [], ◌∷◌, map, Some, refl, true≢false, sym, ◌==◌, codes}
use Rattle.std.specs.Prelude.{bytes_eq}
use Rattle.clap.specs.Walk.{Row, Rule, Text, arg_by_id, most_values, nothing_held, settled_rows, walk_from, walked}
use Rattle.clap.specs.Simple.{Shape, built, filled, is_simple, matches_of}
use Rattle.clap.specs.Takes.{takes, turn_passes, settle_passes}
use Rattle.clap.proofs.TakesLemmas.{leaf_takes}
use Rattle.clap.proofs.OnLiterals.{clap_on_literals}
use Rattle.rl_cli.specs.Words.{is_plain}
use Rattle.rl_cli.specs.Table.{name_of}
use Rattle.rl_cli.specs.Apps.{app_with, rule_for}
use Rattle.rl_cli.specs.declared.flag.Flag.{Flag}
use Rattle.rl_cli.specs.declared.flag.Flag.TheVariants.{Schedule, Tries, Workers, Round}
use Rattle.rl_cli.proofs.Rows.{as_row, is_not}
use Rattle.rl_cli.proofs.Walking.{Finds, IsArgument, IsLoose, IsOption, Pending, awaiting, conj, held, level_found, standing, value_passes, value_walked}

abbrev pub shape_with : List Text → List Flag → Shape
shape_with ids flags = (built (app_with ids flags)).top

-- the command takes the words, and finds what the walk finds
pub record Reads (ids : List Text) (flags : List Flag) (words : List Text) (given : List (Text × Text)) : Type 0 where
  pub takes : takes (app_with ids flags) words ≡ true
  pub matches : matches_of (app_with ids flags) words ≡ map as_row given

pub parse_reads : (ids : List Text) (flags : List Flag) (name : Text) (words : List Text) (given : List (Text × Text)) (i : ℕ)
    → is_simple (app_with ids flags) ≡ true → IsLoose (shape_with ids flags)
    → Finds (shape_with ids flags) (walk_from nothing_held) words given i → Reads ids flags (name ∷ words) given
parse_reads ids flags name words given i simple loose found =
    let level = level_found (shape_with ids flags) words given i refl loose found in
    record {
      takes = conj _ _ simple (leaf_takes (built (app_with ids flags)) nothing_held words refl level.0);
      matches = level.1;
    }

-- an option of a command that is written out
option_by : (s : Shape) (name : Text) (a : Rule) → arg_by_id s.rules name ≡ Some a → bytes_eq name a.id ≡ true → most_values a ≡ 1
    → IsArgument s.rules name
    → ((rows : List Row) (p : Pending) (i : ℕ) → walked s.rules [] (standing rows p i) name ≡ awaiting (settled_rows s.rules p rows) name i)
    → ((rows : List Row) (p : Pending) (i : ℕ) → settle_passes s.rules false (held rows p) ≡ true → turn_passes s [] (standing rows p i) name ≡ true)
    → IsOption s name
option_by s name a at same one argument named named_passes = record {
  argument = argument;
  named = named;
  named_passes = named_passes;
  valued = valued;
  valued_passes = valued_passes;
}
  where
    valued : (rows : List Row) (i : ℕ) (v : Text) → is_plain v ≡ true → walked s.rules [] (awaiting rows name i) v ≡ standing rows (Some (name, v ∷ [])) i
    valued rows i [] e = absurd (true≢false (sym e))
    valued rows i (b ∷ rest) e = value_walked b rest (is_not (b == 45) e) s.rules name a rows i at same one

    valued_passes : (rows : List Row) (i : ℕ) (v : Text) → is_plain v ≡ true → turn_passes s [] (awaiting rows name i) v ≡ true
    valued_passes rows i [] e = absurd (true≢false (sym e))
    valued_passes rows i (b ∷ rest) e = value_passes b rest (is_not (b == 45) e) s name rows i

abbrev pub option_rule : Flag → Rule
option_rule flag = filled (rule_for flag)

-- ---- drive NET N -s SCHEDULE --tries T

abbrev pub drive_ids : List Text
drive_ids = codes "NET" ∷ codes "N" ∷ []

abbrev pub drive_flags : List Flag
drive_flags = Schedule ∷ Tries ∷ []

abbrev pub drive_shape : Shape
drive_shape = shape_with drive_ids drive_flags

pub drive_simple : is_simple (app_with drive_ids drive_flags) ≡ true
drive_simple = refl

pub drive_loose : IsLoose drive_shape
drive_loose = record { defaults = refl; defaults_pass = refl; valid = λ rows. refl }

pub drive_schedule : IsOption drive_shape (name_of Schedule)
unfolding clap_on_literals
drive_schedule = option_by drive_shape (name_of Schedule) (option_rule Schedule) refl refl refl
    (record { settles = λ v rows. refl; passes = λ v rows e. rw e refl }) (λ rows p i. refl) (λ rows p i e. rw e refl)

pub drive_tries : IsOption drive_shape (name_of Tries)
unfolding clap_on_literals
drive_tries = option_by drive_shape (name_of Tries) (option_rule Tries) refl refl refl
    (record { settles = λ v rows. refl; passes = λ v rows e. rw e refl }) (λ rows p i. refl) (λ rows p i e. rw e refl)

-- ---- run NET --tries T --workers W --round R

abbrev pub run_ids : List Text
run_ids = codes "NET" ∷ []

abbrev pub run_flags : List Flag
run_flags = Tries ∷ Workers ∷ Round ∷ []

abbrev pub run_shape : Shape
run_shape = shape_with run_ids run_flags

pub run_simple : is_simple (app_with run_ids run_flags) ≡ true
run_simple = refl

pub run_loose : IsLoose run_shape
run_loose = record { defaults = refl; defaults_pass = refl; valid = λ rows. refl }

pub run_tries : IsOption run_shape (name_of Tries)
unfolding clap_on_literals
run_tries = option_by run_shape (name_of Tries) (option_rule Tries) refl refl refl
    (record { settles = λ v rows. refl; passes = λ v rows e. rw e refl }) (λ rows p i. refl) (λ rows p i e. rw e refl)

pub run_workers : IsOption run_shape (name_of Workers)
unfolding clap_on_literals
run_workers = option_by run_shape (name_of Workers) (option_rule Workers) refl refl refl
    (record { settles = λ v rows. refl; passes = λ v rows e. rw e refl }) (λ rows p i. refl) (λ rows p i e. rw e refl)

pub run_round : IsOption run_shape (name_of Round)
unfolding clap_on_literals
run_round = option_by run_shape (name_of Round) (option_rule Round) refl refl refl
    (record { settles = λ v rows. refl; passes = λ v rows e. rw e refl }) (λ rows p i. refl) (λ rows p i e. rw e refl)

-- ---- a positional or two, and no option

pub one_simple : (id : Text) → is_simple (app_with (id ∷ []) []) ≡ true
one_simple id = refl

pub one_loose : (id : Text) → IsLoose (shape_with (id ∷ []) [])
one_loose id = record { defaults = refl; defaults_pass = refl; valid = λ rows. refl }

pub two_simple : (id1 id2 : Text) → is_simple (app_with (id1 ∷ id2 ∷ []) []) ≡ true
two_simple id1 id2 = refl

pub two_loose : (id1 id2 : Text) → IsLoose (shape_with (id1 ∷ id2 ∷ []) [])
two_loose id1 id2 = record { defaults = refl; defaults_pass = refl; valid = λ rows. refl }
