-- What fetches leave: the files, the counts of others, and which counts rose.
use Rattle.std.proofs.Common.{◌≡◌, ◌≢◌, ◌<◌, ◌≤◌, ℕ, Bool, true, false, List, [], ◌∷◌, Option, Some, None, IfSome, Contains, refl, sym, subst, arith, ◌∙◌, zero, suc, length, get_or}
use Rattle.std.specs.Str.{bytes_eq}
use Rattle.std.proofs.lemmas.Slice.Eq.{bytes_eq-Decides}
use Rattle.relis.specs.Answers.{Held, Counts, Tells, AreTold, NoneRose}
use Rattle.relis.specs.Reading.{FetchesOf}

-- where the count of one name stays, and those of all others, no count rose
pub none_rose : (name : List ℕ) (before now : Counts) → now name ≡ before name →
    ((n : List ℕ) → n ≢ name → now n ≡ before n) → NoneRose before now
none_rose name before now same others n = by_test (bytes_eq n name) refl
  where
    by_test : (b : Bool) → bytes_eq n name ≡ b → now n ≡ before n
    by_test true is = let e : n ≡ name = (bytes_eq-Decides n name).0 is in rw e same
    by_test false is = others n (λ e. absurd (let is_true : bytes_eq n name ≡ true = (bytes_eq-Decides n name).1 e in cc))

pub none_rose-trans : (a b c : Counts) → NoneRose a b → NoneRose b c → NoneRose a c
none_rose-trans a b c first next n = next n ∙ first n

-- the first of names is one of them, and what is one of the others is one of all
pub contains_first : (name : List ℕ) (names : List (List ℕ)) → Contains (name ∷ names) name
contains_first name names = (0, omega arith, refl)

pub contains_later : (first : List ℕ) (names : List (List ℕ)) (name : List ℕ) → Contains names name → Contains (first ∷ names) name
contains_later first names name (i, below, there) = (suc i, omega arith, there)

-- a fetch of one name
pub fetches_one : (name : List ℕ) (held after : Held) (before now : Counts) → ((n : List ℕ) → after n ≡ held n) →
    ((n : List ℕ) → n ≢ name → now n ≡ before n) → ((n : List ℕ) → before n ≤ now n) → FetchesOf (name ∷ []) held after before now
fetches_one name held after before now stay others later = record {
  stay = stay;
  others = λ n not_named. others n (λ is. not_named (subst (λ (x : List ℕ). Contains (name ∷ []) x) (sym is) (contains_first name [])));
  later = later;
}

-- no fetch
pub fetches_none : (names : List (List ℕ)) (held : Held) (before : Counts) → FetchesOf names held held before before
fetches_none names held before = record { stay = λ n. refl; others = λ n not_named. refl; later = λ n. omega arith }

-- a fetch of one name, and then of some others
pub fetches_both : (first second : List ℕ) (a b c : Held) (x y z : Counts) → FetchesOf (first ∷ []) a b x y → FetchesOf (second ∷ []) b c y z →
    FetchesOf (first ∷ second ∷ []) a c x z
fetches_both first second a b c x y z one other = record {
  stay = λ n. other.stay n ∙ one.stay n;
  others = λ n not_named.
      other.others n (λ named. not_named (contains_later first (second ∷ []) n named))
      ∙ one.others n (λ named. not_named (from_one n named));
  later = λ n. omega (arith, one.later n, other.later n);
}
  where
    from_one : (n : List ℕ) → Contains (first ∷ []) n → Contains (first ∷ second ∷ []) n
    from_one n (i, below, there) = at_first i below there
      where
        at_first : (i : ℕ) → i < length (first ∷ []) → get_or (first ∷ []) i n ≡ n → Contains (first ∷ second ∷ []) n
        at_first zero below there = (0, omega arith, there)
        at_first (suc i) below there = absurd (omega arith)

-- only the first of names was fetched
pub fetches_fewer : (first second : List ℕ) (a b : Held) (x y : Counts) → FetchesOf (first ∷ []) a b x y → FetchesOf (first ∷ second ∷ []) a b x y
fetches_fewer first second a b x y one = fetches_both first second a b b x y y one (fetches_none (second ∷ []) b y)

-- some bytes are told under each name, if any are
pub some_told : (told : Option (List ℕ)) → (bytes : List ℕ) × IfSome told (λ there. bytes ≡ there)
some_told None = ([], tt)
some_told (Some there) = (there, refl)

pub some_contents : (held : Held) (names : List (List ℕ)) → (contents : List (List ℕ)) × AreTold held names contents
some_contents held [] = ([], tt)
some_contents held (name ∷ names) =
    let first = some_told (held name) in
    let others = some_contents held names in
    (first.0 ∷ others.0, (first.1, others.1))

-- what a file tells stays
pub tells_before : (held after : Held) (name bytes : List ℕ) → after name ≡ held name → Tells after name bytes → Tells held name bytes
tells_before held after name bytes stay told = subst (λ (o : Option (List ℕ)). IfSome o (λ there. bytes ≡ there)) stay told
