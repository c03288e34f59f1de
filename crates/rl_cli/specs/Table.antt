-- The table of commands: for each form of a command its name, its positionals, its options, those of them that
-- must be there, and the order that it gives; and the table of options.
use Rattle.std.specs.Prelude.{ℕ, List, [], ◌∷◌, slice_get, Option, option_map, unwrap_or, find, bytes_eq, codes}
use Rattle.rl_base.specs.declared.limits.TheConstants.{MIN_TRIES, MAX_TRIES, DEFAULT_TRIES, MIN_ROUND, MAX_ROUND, DEFAULT_ROUND}
use Rattle.rl_base.specs.declared.limits.TheConstants.{MAX_ROUNDS, MAX_WORKERS, MAX_MAKE}
use Rattle.rl_cli.specs.Words.{Text, number}
use Rattle.rl_cli.specs.declared.item.Item.{Item}
use Rattle.rl_cli.specs.declared.item.Item.TheVariants.{File, Number}
use Rattle.rl_cli.specs.declared.flag.Flag.{Flag}
use Rattle.rl_cli.specs.declared.flag.Flag.TheVariants.{Schedule, Tries, Workers, Round}
use Rattle.rl_cli.specs.declared.order.Order.{Order}
use Rattle.rl_cli.specs.declared.order.Order.TheVariants.{Check, Tables, Rounds, Drive, Run, Audit, Make}

-- how an option is written
abbrev pub name_of : Flag → Text
name_of Schedule = codes "-s"
name_of Tries = codes "--tries"
name_of Workers = codes "--workers"
name_of Round = codes "--round"

-- what its value must be
abbrev pub item_of : Flag → Item
item_of Schedule = File
item_of Tries = Number MIN_TRIES MAX_TRIES
item_of Workers = Number 1 MAX_WORKERS
item_of Round = Number MIN_ROUND MAX_ROUND

-- the words after a command's name: the positionals, and each option's name with its value
pub record Given : Type 0 where
  pub positionals : List Text
  pub options : List (Text × Text)

abbrev pub word : Given → ℕ → Text
word g i = unwrap_or (slice_get g.positionals i) []

abbrev pub value : Given → Flag → Option Text
value g flag = option_map (λ p. p.1) (find (λ p. bytes_eq p.0 (name_of flag)) g.options)

abbrev pub count : Given → Flag → Option ℕ
count g flag = option_map number (value g flag)

abbrev pub tries_of : Given → ℕ
tries_of g = unwrap_or (count g Tries) DEFAULT_TRIES

abbrev pub schedule_of : Given → Text
schedule_of g = unwrap_or (value g Schedule) []

abbrev pub round_of : Given → ℕ
round_of g = unwrap_or (count g Round) DEFAULT_ROUND

-- a form of a command
pub record Form : Type 0 where
  pub name : Text
  pub positionals : List Item
  pub options : List Flag
  pub needs : List Flag
  pub order : Given → Order

abbrev pub form : Text → List Item → List Flag → List Flag → (Given → Order) → Form
form name positionals options needs order = record {
  name = name;
  positionals = positionals;
  options = options;
  needs = needs;
  order = order;
}

abbrev pub rounds_asked : Item
rounds_asked = Number 0 MAX_ROUNDS

abbrev pub stations_asked : Item
stations_asked = Number 1 MAX_MAKE

-- the table: name, positionals, options, those that must be there, and the order
abbrev pub check : Form
check = form (codes "check") (File ∷ []) [] []
    (λ g. Check (word g 0))

abbrev pub tables : Form
tables = form (codes "tables") (File ∷ []) [] []
    (λ g. Tables (word g 0))

abbrev pub rounds : Form
rounds = form (codes "drive") (File ∷ rounds_asked ∷ []) (Tries ∷ []) []
    (λ g. Rounds (word g 0) (number (word g 1)) (tries_of g))

abbrev pub drive : Form
drive = form (codes "drive") (File ∷ []) (Schedule ∷ Tries ∷ []) (Schedule ∷ [])
    (λ g. Drive (word g 0) (schedule_of g) (tries_of g))

abbrev pub run : Form
run = form (codes "run") (File ∷ []) (Tries ∷ Workers ∷ Round ∷ []) []
    (λ g. Run (word g 0) (tries_of g) (count g Workers) (round_of g))

abbrev pub audit : Form
audit = form (codes "audit") (File ∷ File ∷ []) [] []
    (λ g. Audit (word g 0) (word g 1))

abbrev pub make : Form
make = form (codes "make") (stations_asked ∷ []) [] []
    (λ g. Make (number (word g 0)))

abbrev pub forms : List Form
forms = check ∷ tables ∷ rounds ∷ drive ∷ run ∷ audit ∷ make ∷ []
