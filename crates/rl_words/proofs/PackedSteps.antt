-- What an optional value tells that is made by a test or by a map, and so what a step said of payloads tells.
use Rattle.std.proofs.Common.{◌≡◌, ℕ, Bool, true, false, Option, Some, None, if◌then◌else◌, refl, ap, ◌∙◌}
use Rattle.std.proofs.lemmas.Option.{some_pair_parts}
use Rattle.std.specs.Prelude.{option_map, option_and_then}
use Rattle.rl_base.specs.declared.layout.WordKind.{WordKind}
use Rattle.rl_words.specs.Word.{Word, packed_step, PackedStep}

-- a guarded value is there only where the test says so
pub guarded : {A : Type 0} (test : Bool) (o : Option A) (y : A) → (if test then o else None) ≡ Some y → (test ≡ true) × (o ≡ Some y)
guarded true o y e = (refl, e)
guarded false o y e = absurd (cc)

-- and a value that a test keeps off only where it says no
pub unless : {A : Type 0} (test : Bool) (o : Option A) (y : A) → (if test then None else o) ≡ Some y → (test ≡ false) × (o ≡ Some y)
unless true o y e = absurd (cc)
unless false o y e = (refl, e)

-- what is mapped to a value is a value
pub mapped : {A B : Type 0} (f : A → B) (o : Option A) (y : B) → option_map f o ≡ Some y → (x : A) × (o ≡ Some x) × (f x ≡ y)
mapped f None y e = absurd (cc)
mapped f (Some x) y e = (x, refl, cc)

-- and what a value leads to has a value behind it
pub followed : {A B : Type 0} (f : A → Option B) (o : Option A) (y : B) → option_and_then f o ≡ Some y → (x : A) × (o ≡ Some x) × (f x ≡ Some y)
followed f None y e = absurd (cc)
followed f (Some x) y e = (x, refl, e)

-- a step said of payloads is one of the words that they pack
pub packed_front : {M : Type 0} (on : Word → Option (Word × M)) (kind : WordKind) (n new : ℕ) (after : M) → packed_step on kind n ≡ Some (new, after)
    → PackedStep (λ seen left next. on seen ≡ Some (left, next)) kind n new after
packed_front on kind n new after e =
    let f = followed _ _ _ e in
    let m = mapped _ _ _ f.2 in
    let parts = some_pair_parts _ _ _ _ (ap Some m.2) in
    record { seen = f.0; left = m.0.0; reads = f.1; step = m.1 ∙ ap (λ next. Some (m.0.0, next)) parts.1; packs = parts.0 }

pub packed_back : {M : Type 0} (on : Word → Option (Word × M)) (kind : WordKind) (n new : ℕ) (after : M)
    → PackedStep (λ seen left next. on seen ≡ Some (left, next)) kind n new after → packed_step on kind n ≡ Some (new, after)
packed_back on kind n new after p =
    let reads = p.reads in
    let step = p.step in
    rw (reads, step) (ap (λ k. Some (k, after)) p.packs)

-- a step by one rule is one by each rule that follows
pub packed_by : {M : Type 0} (Before After : Word → Word → M → Type 0) (kind : WordKind) (n new : ℕ) (after : M)
    → ((seen left : Word) (next : M) → Before seen left next → After seen left next) → PackedStep Before kind n new after → PackedStep After kind n new after
packed_by Before After kind n new after follows p =
    record { seen = p.seen; left = p.left; reads = p.reads; step = follows p.seen p.left after p.step; packs = p.packs }
