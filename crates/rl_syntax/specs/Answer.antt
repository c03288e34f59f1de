-- What is answered to a network text.
use Rattle.std.specs.Prelude.{ℕ, nat_lt, Option, Some, None, Result, Ok, Err, if◌then◌else◌, List, length}
use Rattle.rl_base.specs.declared.draft.Draft.{Draft}
use Rattle.rl_base.specs.declared.limits.TheConstants.{MAX_NETWORK_BYTES}
use Rattle.rl_base.specs.declared.place.Place.{Place}
use Rattle.rl_syntax.specs.Condition.{first}
use Rattle.rl_syntax.specs.Document.{document}
use Rattle.rl_syntax.specs.NameConditions.{name_conditions}
use Rattle.rl_syntax.specs.DraftReading.{draft_of}
use Rattle.rl_syntax.specs.Reading.{Read}
use Rattle.rl_syntax.specs.declared.refusal.SyntaxRefusal.{SyntaxRefusal}
use Rattle.rl_syntax.specs.declared.refusal.SyntaxRefusal.TheVariants.{TooLong, NotToml, Key, BadName, NoMemory}
use Rattle.toml.specs.Data.{Members}

-- the draft, unless a text of it is no name
abbrev pub unless_bad : Draft → Option Place → Result Draft SyntaxRefusal
unless_bad d None = Ok d
unless_bad d (Some p) = Err (BadName p)

-- a draft that was read, or the place where its reading stopped
abbrev pub of_reading : Read Draft → Result Draft SyntaxRefusal
of_reading (Ok d) = unless_bad d (first (name_conditions d))
of_reading (Err p) = Err (Key p)

-- a document, or none
abbrev pub of_document : Option Members → Result Draft SyntaxRefusal
of_document None = Err NotToml
of_document (Some m) = of_reading (draft_of m)

-- the answer to a text
unfoldable pub answer_to : List ℕ → Result Draft SyntaxRefusal
answer_to text = if nat_lt MAX_NETWORK_BYTES (length text) then Err TooLong else of_document (document text)

-- the fact, unless the answer is that memory ran out
abbrev pub UnlessMemory : Result Draft SyntaxRefusal → Type 0 → Type 0
UnlessMemory (Err NoMemory) P = Unit {0}
UnlessMemory _ P = P
