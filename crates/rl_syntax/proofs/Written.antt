-- What is written for a draft: texts, lists and tables, one step of a loop at a time.
use Rattle.std.proofs.Common.{◌≡◌, ℕ, zero, suc, ◌+◌, ◌<◌, Bool, true, List, [], ◌∷◌, ◌++◌, length, get_or, take, slice_index, String, Global, Ordering}
use Rattle.std.proofs.Common.{Less, Equal, Greater, string_bytes, IsUtf8, refl, ap, sym, ◌∙◌, arith}
use Rattle.std.proofs.lemmas.Bool.{and_parts}
use Rattle.std.proofs.lemmas.Bool.Decides.{nat_tests}
use Rattle.std.proofs.lemmas.List.{take_more}
use Rattle.std.proofs.lemmas.Str.{IsUtf8-from_ascii}
use Rattle.std.specs.BTreeMap.{insert_entry}
use Rattle.std.specs.List.{list_all}
use Rattle.std.specs.Ordering.{match_ordering}
use Rattle.std.specs.String.{string_cmp}
use Rattle.rl_base.specs.Kind.{kind_word, side_word}
use Rattle.rl_base.specs.Name.{is_name, is_name_byte}
use Rattle.rl_base.specs.declared.kind.Kind.{Kind}
use Rattle.rl_base.specs.declared.kind.Kind.TheVariants.{Buffer, Joint, Point, Crossing}
use Rattle.rl_base.specs.declared.kind.Side.{Side}
use Rattle.rl_base.specs.declared.kind.Side.TheVariants.{Left, Right}
use Rattle.rl_syntax.specs.DraftTable.{with_key, tables}
use Rattle.rl_syntax.specs.Spelling.{texts}
use Rattle.toml.specs.Data.{string, table, item, push_item, Members, member}
use Rattle.toml.specs.View.{view, items_view, members_view}
use Rattle.toml.specs.declared.value.Value.{Value}
use Rattle.toml.proofs.Views.{Entry, items_view-push}

-- a name is ASCII, and the words of kinds and sides are made as names are
name_byte_small : (b : ℕ) → is_name_byte b ≡ true → b < 128
name_byte_small b h = grind (arith, nat_tests)

bytes_small : (bs : List ℕ) → list_all is_name_byte bs ≡ true → (i : ℕ) → slice_index bs i < 128
bytes_small [] h i = omega arith
bytes_small (b ∷ bs) h zero = name_byte_small b (and_parts (is_name_byte b) (list_all is_name_byte bs) h).0
bytes_small (b ∷ bs) h (suc i) = bytes_small bs (and_parts (is_name_byte b) (list_all is_name_byte bs) h).1 i

pub IsUtf8-name : (text : List ℕ) → is_name text ≡ true → IsUtf8 text
IsUtf8-name text h = IsUtf8-from_ascii text (bytes_small text (and_parts _ (list_all is_name_byte text) h).1)

pub is_name-kind_word : (kind : Kind) → is_name (kind_word kind) ≡ true
is_name-kind_word Buffer = refl
is_name-kind_word Joint = refl
is_name-kind_word Point = refl
is_name-kind_word Crossing = refl

pub is_name-side_word : (side : Side) → is_name (side_word side) ≡ true
is_name-side_word Left = refl
is_name-side_word Right = refl

pub ruleset names = (IsUtf8-name, is_name-kind_word, is_name-side_word)

-- an item of a list all of whose items pass
pub passes_at : {A : Type 0} (p : A → Bool) (xs : List A) (i : ℕ) (x : A) → i < length xs → x ≡ get_or xs i x → list_all p xs ≡ true → p x ≡ true
passes_at p [] i x l e h = absurd (omega (arith, l))
passes_at p (y ∷ ys) zero x l e h = ap p e ∙ (and_parts (p y) (list_all p ys) h).0
passes_at p (y ∷ ys) (suc i) x l e h = passes_at p ys i x (omega (arith, l)) e (and_parts (p y) (list_all p ys) h).1

-- an insert into the map of a table
inserted : (o : Ordering) (k : String Global) (v : Value) (e : Entry) (es : List Entry)
    → members_view (insert_entry string_cmp es k v) ≡ with_key (string_bytes k) (view v) (members_view es)
    → members_view (match_ordering o ((k, v) ∷ e ∷ es) ((e.0, v) ∷ es) (e ∷ insert_entry string_cmp es k v))
    ≡ match_ordering o (member (string_bytes k) (view v) (members_view (e ∷ es))) (member (string_bytes e.0) (view v) (members_view es))
    (member (string_bytes e.0) (view e.1) (with_key (string_bytes k) (view v) (members_view es)))
inserted Less k v e es h = refl
inserted Equal k v e es h = refl
inserted Greater k v e es h = ap (member (string_bytes e.0) (view e.1)) h

pub members_view-insert_entry : (k : String Global) (v : Value) (es : List Entry)
    → members_view (insert_entry string_cmp es k v) ≡ with_key (string_bytes k) (view v) (members_view es)
members_view-insert_entry k v [] = refl
members_view-insert_entry k v (e ∷ es) = inserted (string_cmp k e.0) k v e es (members_view-insert_entry k v es)

pub ruleset entries = members_view-insert_entry

-- one more text, and one more table
texts-last : (ts : List (List ℕ)) (t : List ℕ) → texts (ts ++ t ∷ []) ≡ push_item (texts ts) (string t)
texts-last [] t = refl
texts-last (s ∷ ts) t = ap (item (string s)) (texts-last ts t)

tables-last : {A : Type 0} (f : A → Members) (xs : List A) (x : A) → tables f (xs ++ x ∷ []) ≡ push_item (tables f xs) (table (f x))
tables-last f [] x = refl
tables-last f (y ∷ ys) x = ap (item (table (f y))) (tables-last f ys x)

pub texts-more : (vs : List Value) (v : Value) (names : List (List ℕ)) (i : ℕ) (name : List ℕ) → i < length names → name ≡ get_or names i name
    → items_view vs ≡ texts (take i names) → view v ≡ string name → items_view (vs ++ v ∷ []) ≡ texts (take (i + 1) names)
texts-more vs v names i name l e so_far is =
    rw (items_view-push, so_far, is, take_more names i name l, ← e) (sym (texts-last (take i names) name))

pub tables-more : {A : Type 0} (f : A → Members) (vs : List Value) (v : Value) (xs : List A) (i : ℕ) (x : A) → i < length xs → x ≡ get_or xs i x
    → items_view vs ≡ tables f (take i xs) → view v ≡ table (f x) → items_view (vs ++ v ∷ []) ≡ tables f (take (i + 1) xs)
tables-more f vs v xs i x l e so_far is =
    rw (items_view-push, so_far, is, take_more xs i x l, ← e) (sym (tables-last f (take i xs) x))

pub ruleset steps = (passes_at, texts-more, tables-more)
