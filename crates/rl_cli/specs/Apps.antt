-- The simple command of clap that reads a form's words, as clap's contracts see it.
use Rattle.std.specs.Prelude.{true, List, [], map, ◌++◌, Some, codes}
use Rattle.clap.specs.Walk.{Rule}
use Rattle.clap.specs.Simple.{App, new_rule, new_shape}
use Rattle.rl_cli.specs.Words.{Text}
use Rattle.rl_cli.specs.Table.{name_of}
use Rattle.rl_cli.specs.declared.flag.Flag.{Flag}
use Rattle.rl_cli.specs.declared.flag.Flag.TheVariants.{Schedule, Tries, Workers, Round}

-- the argument as which an option is read has its name as its id
abbrev pub rule_for : Flag → Rule
rule_for Schedule = record (new_rule (name_of Schedule)) { short = Some 115 }
rule_for Tries = record (new_rule (name_of Tries)) { long = Some (codes "tries") }
rule_for Workers = record (new_rule (name_of Workers)) { long = Some (codes "workers") }
rule_for Round = record (new_rule (name_of Round)) { long = Some (codes "round") }

abbrev pub app_with : List Text → List Flag → App
app_with positionals options = record {
  top = record (new_shape (codes "relis")) {
    rules = map new_rule positionals ++ map rule_for options;
    disable_help_flag = true;
  };
  subs = [];
}
