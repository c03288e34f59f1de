-- Rows that lead from one to the next, and when they are a jam.
use Rattle.std.proofs.Common.{◌≡◌, ◌≢◌, ◌==◌, ℕ, ◌<◌, ◌≤◌, true, false, List, [], ◌∷◌, ◌++◌, length, map, Option, Some, None, inl, inr, refl, sym, ap, ◌∙◌, subst, append_assoc, length-append, arith}
use Rattle.std.specs.List.{AllByRecursion, IsDistinct, list_any}
use Rattle.std.proofs.lemmas.Bool.{eqb-true, eqb-false, or_cases, or_parts, ne_eqb}
use Rattle.std.proofs.lemmas.List.{length-map}
use Rattle.std.proofs.lemmas.Map.Keys.{IsDistinct-cons, IsDistinct-from_apart}
use Rattle.std.proofs.lemmas.Map.Steps.{length-le_from_distinct_below}
use Rattle.rl_model.specs.declared.report.Report.{Report}
use Rattle.rl_jam.specs.declared.waits.WaitRow.{WaitRow}
use Rattle.rl_jam.specs.Jams.{IsWait, IsJam, IsNotIn, LeadsTo, AreApart}
use Rattle.rl_jam.specs.Finding.{IsWaitOf, GoesOn, IsNextRow, HasRest, AreBegun, IsJamFrom}
use Rattle.rl_jam.proofs.Lists.{all_more, all_at, all_weaker}
use Rattle.rl_jam.proofs.Refused.{one_wait, spent_within}

-- the test whether a train is in one of the rows
pub not_in : (rows : List WaitRow) (t : ℕ) → list_any (λ (row : WaitRow). row.t.0 == t) rows ≡ false → IsNotIn t rows
not_in [] t none = tt
not_in (row ∷ rows) t none =
    let both = or_parts (row.t.0 == t) (list_any (λ (x : WaitRow). x.t.0 == t) rows) none in
    (eqb-false row.t.0 t both.0, not_in rows t both.1)

pub is_in : (rows : List WaitRow) (t : ℕ) → list_any (λ (row : WaitRow). row.t.0 == t) rows ≡ true → IsNotIn t rows → ⊥
is_in [] t some out = absurd (cc)
is_in (row ∷ rows) t some out =
    elim (or_cases (row.t.0 == t) (list_any (λ (x : WaitRow). x.t.0 == t) rows) some) [
      | inl here ↦ out.0 (eqb-true row.t.0 t here)
      | inr later ↦ is_in rows t later out.1
    ]

pub next_from : (report : Report) (first : ℕ) (rows : List WaitRow) (t : ℕ) (x : Option WaitRow) → first ≤ t → IsNotIn t rows → IsWaitOf report t x
    → IsNextRow report first rows t x
next_from report first rows t (Some row) above new of = record { train = of.0; wait = of.1; above = above; new = new }
next_from report first rows t None above new none = λ row goes. none row goes.train goes.wait

leads_more : (rows : List WaitRow) (first t : ℕ) (row : WaitRow) → LeadsTo first rows t → row.t.0 ≡ t → LeadsTo first (rows ++ row ∷ []) row.u.0
leads_more [] first t row leads train = (train ∙ sym leads, refl)
leads_more (x ∷ rows) first t row leads train = (leads.0, leads_more rows x.u.0 t row leads.1 train)

apart_more : (rows : List WaitRow) (row : WaitRow) → AreApart rows → IsNotIn row.t.0 rows → AreApart (rows ++ row ∷ [])
apart_more [] row apart new = (tt, tt)
apart_more (x ∷ rows) row apart new =
    (all_more (λ (other : WaitRow). other.t.0 ≢ x.t.0) rows row apart.0 (λ same. new.0 (sym same)), apart_more rows row apart.1 new.1)

-- a row in the middle is of no train before it
apart_front : (rows : List WaitRow) (row : WaitRow) (rest : List WaitRow) → AreApart (rows ++ row ∷ rest) → IsNotIn row.t.0 rows
apart_front [] row rest apart = tt
apart_front (x ∷ rows) row rest apart =
    let away = all_at (λ (other : WaitRow). other.t.0 ≢ x.t.0) rows rest row apart.0 in
    (λ same. away (sym same), apart_front rows row rest apart.1)

-- the first train isn't met again
not_again : (rows : List WaitRow) (row : WaitRow) (rest : List WaitRow) (first end : ℕ) → rows ≢ [] → LeadsTo first (rows ++ row ∷ rest) end
    → AreApart (rows ++ row ∷ rest) → row.t.0 ≡ first → ⊥
not_again [] row rest first end some leads apart same = some refl
not_again (x ∷ rows) row rest first end some leads apart same =
    let away = all_at (λ (other : WaitRow). other.t.0 ≢ x.t.0) rows rest row apart.0 in
    away (same ∙ sym leads.0)

not_empty : (rows : List WaitRow) (row : WaitRow) → rows ++ row ∷ [] ≢ []
not_empty [] row e = cc
not_empty (x ∷ rows) row e = cc

pub begun_none : (report : Report) (first : ℕ) → AreBegun report first [] first
begun_none report first =
    record {
      leads = refl;
      waits = tt;
      apart = tt;
      least = tt;
      only = λ all jam. record { rest = all; joined = refl; leads = jam.around; more = jam.some };
    }

-- the next row of a jam that begins with these rows is the one that goes on
next_is : (report : Report) (first : ℕ) (rows all : List WaitRow) (t : ℕ) (row other : WaitRow) (others : List WaitRow) → IsJam report first all
    → all ≡ rows ++ other ∷ others → other.t.0 ≡ t → GoesOn report first rows t row → other ≡ row
next_is report first rows all t row other others jam joined train goes =
    let waits = subst (λ (xs : List WaitRow). AllByRecursion (IsWait report) xs) joined jam.waits in
    one_wait report other row (all_at (IsWait report) rows others other waits) goes.wait (train ∙ sym goes.train)

rest_more : (report : Report) (first : ℕ) (rows all : List WaitRow) (t : ℕ) (row : WaitRow) (rest : List WaitRow) → IsJam report first all
    → all ≡ rows ++ rest → LeadsTo t rest first → rest ≢ [] → GoesOn report first rows t row → (row.u.0 ≡ first → ⊥)
    → HasRest first (rows ++ row ∷ []) all row.u.0
rest_more report first rows all t row [] jam joined leads more goes open_ = absurd (more refl)
rest_more report first rows all t row (other ∷ []) jam joined leads more goes open_ =
    let same = next_is report first rows all t row other [] jam joined leads.0 goes in
    absurd (open_ (subst (λ (x : WaitRow). x.u.0 ≡ first) same leads.1))
rest_more report first rows all t row (other ∷ third ∷ others) jam joined leads more goes open_ =
    let same = next_is report first rows all t row other (third ∷ others) jam joined leads.0 goes in
    record {
      rest = third ∷ others;
      joined = joined ∙ ap (λ (x : WaitRow). rows ++ x ∷ third ∷ others) same ∙ sym (append_assoc rows (row ∷ []) (third ∷ others));
      leads = subst (λ (x : WaitRow). LeadsTo x.u.0 (third ∷ others) first) same leads.1;
      more = λ e. cc;
    }

pub begun_more : (report : Report) (first : ℕ) (rows : List WaitRow) (t : ℕ) (row : WaitRow) → AreBegun report first rows t → GoesOn report first rows t row
    → (row.u.0 ≡ first → ⊥) → AreBegun report first (rows ++ row ∷ []) row.u.0
begun_more report first rows t row begun goes open_ =
    record {
      leads = leads_more rows first t row begun.leads goes.train;
      waits = all_more (IsWait report) rows row begun.waits goes.wait;
      apart = apart_more rows row begun.apart (subst (λ (k : ℕ). IsNotIn k rows) (sym goes.train) goes.new);
      least = all_more (λ (x : WaitRow). first ≤ x.t.0) rows row begun.least (subst (λ (k : ℕ). first ≤ k) (sym goes.train) goes.above);
      only = λ all jam.
          let had = begun.only all jam in
          rest_more report first rows all t row had.rest jam had.joined had.leads had.more goes open_;
    }

-- where the row leads back to the first train, the rows are the jam, and the only one
only_rest : (report : Report) (first : ℕ) (rows all : List WaitRow) (t : ℕ) (row : WaitRow) (rest : List WaitRow) → IsJam report first all
    → all ≡ rows ++ rest → LeadsTo t rest first → rest ≢ [] → GoesOn report first rows t row → row.u.0 ≡ first → all ≡ rows ++ row ∷ []
only_rest report first rows all t row [] jam joined leads more goes back = absurd (more refl)
only_rest report first rows all t row (other ∷ []) jam joined leads more goes back =
    joined ∙ ap (λ (x : WaitRow). rows ++ x ∷ []) (next_is report first rows all t row other [] jam joined leads.0 goes)
only_rest report first rows all t row (other ∷ third ∷ others) jam joined leads more goes back =
    let same = next_is report first rows all t row other (third ∷ others) jam joined leads.0 goes in
    let whole : all ≡ (rows ++ other ∷ []) ++ third ∷ others = joined ∙ sym (append_assoc rows (other ∷ []) (third ∷ others)) in
    absurd (not_again (rows ++ other ∷ []) third others first first (not_empty rows other)
    (subst (λ (xs : List WaitRow). LeadsTo first xs first) whole jam.around) (subst AreApart whole jam.apart)
    (leads.1.0 ∙ ap (λ (x : WaitRow). x.u.0) same ∙ back))

pub closed : (report : Report) (first : ℕ) (rows : List WaitRow) (t : ℕ) (row : WaitRow) → AreBegun report first rows t → GoesOn report first rows t row
    → row.u.0 ≡ first → IsJamFrom report first (Some (rows ++ row ∷ []))
closed report first rows t row begun goes back = (
  record {
    some = not_empty rows row;
    around = subst (λ (k : ℕ). LeadsTo first (rows ++ row ∷ []) k) back (leads_more rows first t row begun.leads goes.train);
    waits = all_more (IsWait report) rows row begun.waits goes.wait;
    apart = apart_more rows row begun.apart (subst (λ (k : ℕ). IsNotIn k rows) (sym goes.train) goes.new);
    least = all_more (λ (x : WaitRow). first ≤ x.t.0) rows row begun.least (subst (λ (k : ℕ). first ≤ k) (sym goes.train) goes.above);
  },
  λ all jam.
      let had = begun.only all jam in
      only_rest report first rows all t row had.rest jam had.joined had.leads had.more goes back,
)

-- where no row goes on, no jam begins so
no_rest : (report : Report) (first : ℕ) (rows all : List WaitRow) (t : ℕ) (rest : List WaitRow) → IsJam report first all → all ≡ rows ++ rest
    → LeadsTo t rest first → rest ≢ [] → ((row : WaitRow) → GoesOn report first rows t row → ⊥) → ⊥
no_rest report first rows all t [] jam joined leads more none = more refl
no_rest report first rows all t (row ∷ rest) jam joined leads more none =
    let waits = subst (λ (xs : List WaitRow). AllByRecursion (IsWait report) xs) joined jam.waits in
    let least = subst (λ (xs : List WaitRow). AllByRecursion (λ (x : WaitRow). first ≤ x.t.0) xs) joined jam.least in
    none row (record {
      train = leads.0;
      wait = all_at (IsWait report) rows rest row waits;
      above = subst (λ (k : ℕ). first ≤ k) leads.0 (all_at (λ (x : WaitRow). first ≤ x.t.0) rows rest row least);
      new = subst (λ (k : ℕ). IsNotIn k rows) leads.0 (apart_front rows row rest (subst AreApart joined jam.apart));
    })

pub ended : (report : Report) (first : ℕ) (rows : List WaitRow) (t : ℕ) → AreBegun report first rows t
    → ((row : WaitRow) → GoesOn report first rows t row → ⊥) → IsJamFrom report first None
ended report first rows t begun none = λ all jam.
    let had = begun.only all jam in
    no_rest report first rows all t had.rest jam had.joined had.leads had.more none

-- different spent trains are no more than there are trains
distinct : (rows : List WaitRow) → AreApart rows → IsDistinct ◌==◌ (map (λ (row : WaitRow). row.t.0) rows)
distinct [] apart = IsDistinct-from_apart ◌==◌ [] (λ i j d less within. absurd (omega arith))
distinct (row ∷ rows) apart =
    IsDistinct-cons ◌==◌ row.t.0 (map (λ (x : WaitRow). x.t.0) rows) (others row.t.0 rows apart.0) (distinct rows apart.1)
  where
    others : (t : ℕ) (xs : List WaitRow) → IsNotIn t xs → AllByRecursion (λ (k : ℕ). (t == k) ≡ false) (map (λ (x : WaitRow). x.t.0) xs)
    others t [] out = tt
    others t (x ∷ xs) out = (ne_eqb t x.t.0 (λ e. out.0 (sym e)), others t xs out.1)

below : (n : ℕ) (rows : List WaitRow) → AllByRecursion (λ (row : WaitRow). row.t.0 < n) rows → (q : ℕ)
    → list_any (λ k. q == k) (map (λ (row : WaitRow). row.t.0) rows) ≡ true → q < n
below n [] all q some = absurd (cc)
below n (row ∷ rows) all q some =
    elim (or_cases (q == row.t.0) (list_any (λ k. q == k) (map (λ (x : WaitRow). x.t.0) rows)) some) [
      | inl here ↦ subst (λ (k : ℕ). k < n) (sym (eqb-true q row.t.0 here)) all.0
      | inr later ↦ below n rows all.1 q later
    ]

few_rows : (report : Report) (rows : List WaitRow) → AllByRecursion (IsWait report) rows → AreApart rows → length rows ≤ length report.outcomes
few_rows report rows waits apart =
    let few = length-le_from_distinct_below (map (λ (row : WaitRow). row.t.0) rows) (length report.outcomes) (distinct rows apart)
    (below (length report.outcomes) rows
    (all_weaker (IsWait report) (λ (row : WaitRow). row.t.0 < length report.outcomes) rows (λ row wait. spent_within report row.t.0 wait.spent) waits)) in
    let same = length-map rows (λ (row : WaitRow). row.t.0) in
    omega arith

longer : (rows rest : List WaitRow) → rest ≢ [] → length rows < length (rows ++ rest)
longer rows [] more = absurd (more refl)
longer rows (x ∷ rest) more = let joined = length-append rows (x ∷ rest) in omega arith

pub too_long : (report : Report) (first : ℕ) (rows : List WaitRow) (t : ℕ) → AreBegun report first rows t → length report.outcomes ≤ length rows
    → IsJamFrom report first None
too_long report first rows t begun many = λ all jam.
    let had = begun.only all jam in
    let few = few_rows report all jam.waits jam.apart in
    let more = longer rows had.rest had.more in
    let same = ap length had.joined in
    omega arith
