-- What is no document.
use Rattle.std.proofs.Common.{◌≡◌, ℕ, Bool, true, false, cond, List, Option, None, refl}
use Rattle.std.specs.Str.{IsUtf8, is_utf8}
use Rattle.std.proofs.lemmas.Str.{IsUtf8-from_is_utf8}
use Rattle.toml.specs.Data.{Members}
use Rattle.toml.specs.Parse.{parse_document}
use Rattle.rl_syntax.specs.Document.{document}

none_of_both : (b : Bool) (o : Option Members) → (b ≡ true → o ≡ None) → cond b o None ≡ None
none_of_both true o h = h refl
none_of_both false o h = refl

pub document-none : (text : List ℕ) → (IsUtf8 text → parse_document text ≡ None) → document text ≡ None
unfolding document
document-none text h = none_of_both (is_utf8 text) (parse_document text) (λ e. h (IsUtf8-from_is_utf8 text e))
