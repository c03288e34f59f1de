-- The answer to a text means what it says.
use Rattle.std.proofs.Common.{◌≡◌, ℕ, ◌<◌, ◌≤◌, nat_lt, Bool, true, false, cond, List, length, Option, Some, None, Result, Ok, Err, IfOk, refl, ap, sym, subst}
use Rattle.std.proofs.Common.{◌∙◌, arith}
use Rattle.std.proofs.lemmas.Bool.Decides.{nat_tests}
use Rattle.std.proofs.lemmas.Str.{IsUtf8-from_is_utf8, is_utf8-from_IsUtf8}
use Rattle.std.specs.Str.{is_utf8}
use Rattle.rl_base.specs.Draft.{HasNames}
use Rattle.rl_base.specs.declared.draft.Draft.{Draft}
use Rattle.rl_base.specs.declared.limits.TheConstants.{MAX_NETWORK_BYTES}
use Rattle.rl_base.specs.declared.place.Place.{Place}
use Rattle.rl_syntax.specs.Answer.{unless_bad, of_reading, of_document, answer_to, UnlessMemory}
use Rattle.rl_syntax.specs.Condition.{NoneHolds, first}
use Rattle.rl_syntax.specs.Document.{document}
use Rattle.rl_syntax.specs.Meaning.{IsDocument, HasDraft, Means}
use Rattle.rl_syntax.specs.KeyConditions.{key_conditions}
use Rattle.rl_syntax.specs.NameConditions.{name_conditions}
use Rattle.rl_syntax.specs.DraftReading.{draft_of}
use Rattle.rl_syntax.specs.Reading.{Read}
use Rattle.rl_syntax.specs.declared.refusal.SyntaxRefusal.{SyntaxRefusal}
use Rattle.rl_syntax.specs.declared.refusal.SyntaxRefusal.TheVariants.{TooLong, NotToml, Key, BadName, NoMemory}
use Rattle.rl_syntax.proofs.AllNamed.{HasNames-from_first, first-from_HasNames}
use Rattle.rl_syntax.proofs.KeyFirst.{stop, key_first}
use Rattle.rl_syntax.proofs.Order.{first-some, first-none, first-from_place, first-from_none, keys_ascend, draft_names_ascend}
use Rattle.rl_syntax.proofs.Spelled.{draft_says}
use Rattle.rl_syntax.proofs.Unique.{same_draft}
use Rattle.toml.specs.Data.{Members}
use Rattle.toml.specs.Parse.{parse_document}

in_answer : (r : Result Draft SyntaxRefusal) (P Q : Type 0) → (P → Q) → UnlessMemory r P → UnlessMemory r Q
in_answer (Ok d) P Q f h = f h
in_answer (Err TooLong) P Q f h = f h
in_answer (Err NotToml) P Q f h = f h
in_answer (Err (Key p)) P Q f h = f h
in_answer (Err (BadName p)) P Q f h = f h
in_answer (Err NoMemory) P Q f h = tt

-- a text is a document where it is UTF-8 and parses
document_is : (text : List ℕ) (m : Members) → length text ≤ MAX_NETWORK_BYTES → document text ≡ Some m → IsDocument text m
unfolding document
document_is text m short h = by_test (is_utf8 text) refl h
  where
    by_test : (b : Bool) → is_utf8 text ≡ b → cond b (parse_document text) None ≡ Some m → IsDocument text m
    by_test true e k = record { short = short; utf8 = IsUtf8-from_is_utf8 text e; parsed = k }
    by_test false e k = cc

is_document : (text : List ℕ) (m : Members) → IsDocument text m → document text ≡ Some m
unfolding document
is_document text m h = rw (is_utf8-from_IsUtf8 text h.utf8) h.parsed

by_name : (text : List ℕ) (m : Members) (d : Draft) → IsDocument text m → HasDraft m d → (o : Option Place) → first (name_conditions d) ≡ o
    → Means text (unless_bad d o)
by_name text m d is has None e = (m, is, has, HasNames-from_first d e)
by_name text m d is has (Some p) e = (m, d, is, has, first-some _ (name_conditions d) _ p (draft_names_ascend d) e)

by_reading : (text : List ℕ) (m : Members) → IsDocument text m → (r : Read Draft) → draft_of m ≡ r → Means text (of_reading r)
by_reading text m is (Ok d) e = by_name text m d is (record { keys = first-none (key_conditions m) (key_first m ∙ ap stop e); says = draft_says m d e })
    (first (name_conditions d)) refl
by_reading text m is (Err p) e = (m, is, first-some _ (key_conditions m) _ p (keys_ascend m) (key_first m ∙ ap stop e))

by_document : (text : List ℕ) → length text ≤ MAX_NETWORK_BYTES → (o : Option Members) → document text ≡ o → Means text (of_document o)
by_document text short None e = (short, λ m is. let k = is_document text m is in cc)
by_document text short (Some m) e = by_reading text m (document_is text m short e) (draft_of m) refl

pub answer_means : (text : List ℕ) → Means text (answer_to text)
unfolding answer_to
answer_means text = by_length (nat_lt MAX_NETWORK_BYTES (length text)) refl
  where
    by_length : (b : Bool) → nat_lt MAX_NETWORK_BYTES (length text) ≡ b → Means text (cond b (Err TooLong) (of_document (document text)))
    by_length true e = grind (arith, nat_tests)
    by_length false e = by_document text (grind (arith, nat_tests)) (document text) refl

-- so does the answer that is given
pub Means-at_answer : (text : List ℕ) (r : Result Draft SyntaxRefusal) → r ≡ answer_to text → Means text r
Means-at_answer text r h = subst (Means text) (sym h) (answer_means text)

pub meaning : (text : List ℕ) (r : Result Draft SyntaxRefusal) → UnlessMemory r (r ≡ answer_to text) → UnlessMemory r (Means text r)
meaning text r = in_answer r (r ≡ answer_to text) (Means text r) (Means-at_answer text r)

pub names-from_answer : (text : List ℕ) (r : Result Draft SyntaxRefusal) → UnlessMemory r (r ≡ answer_to text) → IfOk r HasNames
names-from_answer text (Ok d) h = (Means-at_answer text (Ok d) h).3
names-from_answer text (Err e) h = tt

-- what a reading that stops nowhere gives, and where one that stops does
reads_on : {A : Type 0} (r : Read A) → stop r ≡ None → (x : A) × (r ≡ Ok x)
reads_on (Ok x) h = (x, refl)
reads_on (Err p) h = cc

stops_at : {A : Type 0} (r : Read A) (p : Place) → stop r ≡ Some p → r ≡ Err p
stops_at (Ok x) p h = cc
stops_at (Err q) p h = cc

no_key : (m : Members) → NoneHolds (key_conditions m) → first (key_conditions m) ≡ None
no_key m none = first-from_none _ (key_conditions m) _ (keys_ascend m) none

-- the draft that the table says is the one that is read
reads_draft : (m : Members) (d : Draft) → HasDraft m d → draft_of m ≡ Ok d
reads_draft m d has =
    let (e, read) = reads_on (draft_of m) (sym (key_first m) ∙ no_key m has.keys) in
    read ∙ ap Ok (same_draft m e d (draft_says m e read) has.says)

answer_short : (text : List ℕ) → length text ≤ MAX_NETWORK_BYTES → answer_to text ≡ of_document (document text)
unfolding answer_to
answer_short text short = let e : nat_lt MAX_NETWORK_BYTES (length text) ≡ false = grind (arith, nat_tests) in rw e

answer_document : (text : List ℕ) (m : Members) → IsDocument text m → answer_to text ≡ of_reading (draft_of m)
answer_document text m is = answer_short text is.short ∙ ap of_document (is_document text m is)

-- a draft, and its names
answer_draft : (text : List ℕ) (m : Members) (d : Draft) → IsDocument text m → HasDraft m d → answer_to text ≡ unless_bad d (first (name_conditions d))
answer_draft text m d is has = answer_document text m is ∙ ap of_reading (reads_draft m d has)

no_document : (text : List ℕ) → length text ≤ MAX_NETWORK_BYTES → ((m : Members) → IsDocument text m → ⊥) → document text ≡ None
no_document text short none = by_cases (document text) refl
  where
    by_cases : (o : Option Members) → document text ≡ o → o ≡ None
    by_cases None e = refl
    by_cases (Some m) e = absurd (none m (document_is text m short e))

too_long : (text : List ℕ) → MAX_NETWORK_BYTES < length text → answer_to text ≡ Err TooLong
unfolding answer_to
too_long text long = let e : nat_lt MAX_NETWORK_BYTES (length text) ≡ true = grind (arith, nat_tests) in rw e

-- what means this of the text is its answer
pub answer_to-from_means : (text : List ℕ) (r : Result Draft SyntaxRefusal) → Means text r → answer_to text ≡ r
answer_to-from_means text (Ok d) (m, is, has, names) = answer_draft text m d is has ∙ ap (unless_bad d) (first-from_HasNames d names)
answer_to-from_means text (Err TooLong) h = too_long text h
answer_to-from_means text (Err NotToml) (short, none) = answer_short text short ∙ ap of_document (no_document text short none)
answer_to-from_means text (Err (Key p)) (m, is, first_is) = answer_document text m is
    ∙ ap of_reading (stops_at (draft_of m) p (sym (key_first m) ∙ first-from_place _ (key_conditions m) _ p (keys_ascend m) first_is))
answer_to-from_means text (Err (BadName p)) (m, d, is, has, first_is) = answer_draft text m d is has
    ∙ ap (unless_bad d) (first-from_place _ (name_conditions d) _ p (draft_names_ascend d) first_is)
answer_to-from_means text (Err NoMemory) h = absurd h

pub exact : (text : List ℕ) (r other : Result Draft SyntaxRefusal) → UnlessMemory r (r ≡ answer_to text) → Means text other → UnlessMemory r (r ≡ other)
exact text r other h means = in_answer r (r ≡ answer_to text) (r ≡ other) (λ e. e ∙ answer_to-from_means text other means) h
