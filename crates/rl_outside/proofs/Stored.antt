-- Files in memory after one was stored.
use Rattle.std.proofs.Common.{◌≡◌, ◌≢◌, ℕ, Bool, true, false, List, [], ◌∷◌, ◌++◌, get_or, set, Option, Some, None, refl, sym, ap, subst, arith, ◌∙◌}
use Rattle.std.specs.List.{find, position, position_or_len}
use Rattle.std.specs.Option.{option_map, option_or}
use Rattle.std.specs.Str.{bytes_eq}
use Rattle.std.proofs.lemmas.Slice.Eq.{bytes_eq-Decides}
use Rattle.std.proofs.lemmas.List.Sums.{position_or_len_is}
use Rattle.std.proofs.lemmas.List.Folds.{find-set, find-append}
use Rattle.std.proofs.lemmas.List.Quantifiers.{position-Some}
use Rattle.rl_outside.specs.declared.mem_files.StoredFile.{StoredFile}
use Rattle.rl_outside.specs.MemFiles.{bytes_under}
use Rattle.rl_outside.proofs.Named.{bytes_eq-other, find-set_other, find-nowhere}

-- the file at the place of a name has that name
pub name-at_position : (files : List StoredFile) (name : List ℕ) (i : ℕ) (was : StoredFile) →
    position (λ f. bytes_eq f.name name) files ≡ Some i → was ≡ get_or files i was → was.name ≡ name
name-at_position files name i was here there =
    let passes = (position-Some (λ f. bytes_eq f.name name) files i was here).1 in
    (bytes_eq-Decides was.name name).0 (subst (λ (f : StoredFile). bytes_eq f.name name ≡ true) (sym there) passes)

-- after a write of other bytes into the file of a name, they are the bytes under it
pub bytes_under-set : (files : List StoredFile) (name bytes : List ℕ) (i : ℕ) (was : StoredFile) →
    position (λ f. bytes_eq f.name name) files ≡ Some i → was ≡ get_or files i was →
    bytes_under (set files i (record { name = was.name; bytes = bytes })) name ≡ Some bytes
bytes_under-set files name bytes i was here there =
    let test : StoredFile → Bool = λ f. bytes_eq f.name name in
    let at = position-Some test files i was here in
    let place : position_or_len test files ≡ i =
    position_or_len_is test files i was (omega (arith, at.0)) at.2 (λ _. at.1) in
    let file : StoredFile = record { name = was.name; bytes = bytes } in
    let passes : test file ≡ true =
    (bytes_eq-Decides was.name name).1 (name-at_position files name i was here there) in
    ap (option_map (λ f. f.bytes)) (find-set test files i file (sym place) at.0 passes)

-- and those under another name stay
pub bytes_under-set_other : (files : List StoredFile) (name bytes : List ℕ) (i : ℕ) (was : StoredFile) →
    position (λ f. bytes_eq f.name name) files ≡ Some i → was ≡ get_or files i was →
    (n : List ℕ) → n ≢ name →
    bytes_under (set files i (record { name = was.name; bytes = bytes })) n ≡ bytes_under files n
bytes_under-set_other files name bytes i was here there n other =
    let test : StoredFile → Bool = λ f. bytes_eq f.name n in
    let differs : bytes_eq was.name n ≡ false =
    rw (name-at_position files name i was here there) (bytes_eq-other n name other) in
    let old : test (get_or files i was) ≡ false =
    subst (λ (f : StoredFile). bytes_eq f.name n ≡ false) there differs in
    ap (option_map (λ f. f.bytes))
    (find-set_other test files i (record { name = was.name; bytes = bytes }) was differs old)

-- after a push of a file with a new name, its bytes are those under the name
pub bytes_under-push : (files : List StoredFile) (name : List ℕ) (file : StoredFile) →
    file.name ≡ name → position (λ f. bytes_eq f.name name) files ≡ None →
    bytes_under (files ++ file ∷ []) name ≡ Some file.bytes
bytes_under-push files name file named nowhere =
    let test : StoredFile → Bool = λ f. bytes_eq f.name name in
    let passes : test file ≡ true = (bytes_eq-Decides file.name name).1 named in
    let found : find test (files ++ file ∷ []) ≡ Some file =
    find-append test files (file ∷ []) ∙ rw (find-nowhere test files nowhere, passes) refl in
    ap (option_map (λ f. f.bytes)) found

-- one that found nothing more is what it was
option_or-none : {T : Type 0} (o : Option T) → option_or o None ≡ o
option_or-none None = refl
option_or-none (Some x) = refl

-- and those under another name stay
pub bytes_under-push_other : (files : List StoredFile) (name : List ℕ) (file : StoredFile) →
    file.name ≡ name → (n : List ℕ) → n ≢ name → bytes_under (files ++ file ∷ []) n ≡ bytes_under files n
bytes_under-push_other files name file named n other =
    let test : StoredFile → Bool = λ f. bytes_eq f.name n in
    let differs : test file ≡ false = rw named (bytes_eq-other n name other) in
    let found : find test (files ++ file ∷ []) ≡ find test files =
    find-append test files (file ∷ []) ∙ rw differs (option_or-none (find test files)) in
    ap (option_map (λ f. f.bytes)) found
