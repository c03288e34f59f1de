-- What each answer says of a network text.
use Rattle.std.specs.Prelude.{◌≡◌, ℕ, ◌<◌, ◌≤◌, IsUtf8, Some, Result, Ok, Err, List, length}
use Rattle.rl_base.specs.Draft.{HasNames}
use Rattle.rl_base.specs.declared.draft.Draft.{Draft}
use Rattle.rl_base.specs.declared.limits.TheConstants.{MAX_NETWORK_BYTES}
use Rattle.rl_syntax.specs.Condition.{NoneHolds, IsFirstPlace}
use Rattle.rl_syntax.specs.KeyConditions.{key_conditions}
use Rattle.rl_syntax.specs.NameConditions.{name_conditions}
use Rattle.rl_syntax.specs.Spelling.{SaysDraft}
use Rattle.rl_syntax.specs.declared.refusal.SyntaxRefusal.{SyntaxRefusal}
use Rattle.rl_syntax.specs.declared.refusal.SyntaxRefusal.TheVariants.{TooLong, NotToml, Key, BadName, NoMemory}
use Rattle.toml.specs.Data.{Members}
use Rattle.toml.specs.Parse.{parse_document}

-- the text is short enough, and the document of this table
pub record IsDocument (text : List ℕ) (m : Members) : Type 0 where
  pub short : length text ≤ MAX_NETWORK_BYTES
  pub utf8 : IsUtf8 text
  pub parsed : parse_document text ≡ Some m

-- no key of the table is wrong, and it says this draft
pub record HasDraft (m : Members) (d : Draft) : Type 0 where
  pub keys : NoneHolds (key_conditions m)
  pub says : SaysDraft m d

-- What an answer says of the text; the places are the first at which a key is wrong, and at which a text is no name.
-- Nothing in a text makes memory run out
abbrev pub Means : List ℕ → Result Draft SyntaxRefusal → Type 0
Means text (Ok d) = (m : Members) × IsDocument text m × HasDraft m d × HasNames d
Means text (Err TooLong) = MAX_NETWORK_BYTES < length text
Means text (Err NotToml) = (length text ≤ MAX_NETWORK_BYTES) × ((m : Members) → ¬ (IsDocument text m))
Means text (Err (Key p)) = (m : Members) × IsDocument text m × IsFirstPlace (key_conditions m) p
Means text (Err (BadName p)) =
    (m : Members) × (d : Draft) × IsDocument text m × HasDraft m d × IsFirstPlace (name_conditions d) p
Means text (Err NoMemory) = ⊥
