-- Words that say something: every one but the still word can be read.
use Rattle.std.specs.Prelude.{◌≡◌, ◌≢◌, Some}
use Rattle.rl_base.specs.declared.layout.WordKind.{WordKind}
use Rattle.rl_base.specs.declared.layout.WordKind.TheVariants.{Still}
use Rattle.rl_base.specs.Layout.{HasWord}
use Rattle.rl_words.specs.Word.{Word, read_word}
use Rattle.rl_tables.specs.declared.table.Tables.{Tables}
use Rattle.rl_tables.specs.Starts.{layout_of}
use Rattle.rl_steps.specs.State.{CoreState}
use Rattle.rl_safety.specs.Reading.{payload_of}

-- each word of the layout but the still word has a payload that is a packing
abbrev pub AreReadable : Tables → CoreState → Type 0
AreReadable tables c =
    (kind : WordKind) → HasWord (layout_of tables) kind → kind ≢ Still
    → (word : Word) × (read_word kind (payload_of tables c kind) ≡ Some word)
