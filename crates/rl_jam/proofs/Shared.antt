-- No train is in two jams.
use Rattle.std.proofs.Common.{◌≡◌, ◌≢◌, ℕ, zero, suc, ◌≤◌, List, [], ◌∷◌, slice_get, Some, ◌⊎◌, inl, inr, refl, sym, ap, ap₂, ◌∙◌, subst, arith}
use Rattle.std.specs.List.{AllByRecursion}
use Rattle.std.proofs.lemmas.Option.{same_Some}
use Rattle.rl_model.specs.declared.report.Report.{Report}
use Rattle.rl_jam.specs.declared.waits.WaitRow.{WaitRow}
use Rattle.rl_jam.specs.Jams.{IsWait, IsJam, IsNotIn, LeadsTo, AreApart}
use Rattle.rl_jam.proofs.Lists.{all_get}
use Rattle.rl_jam.proofs.Refused.{one_wait}

-- a row is of the train
record HasTrain (rows : List WaitRow) (t : ℕ) : Type 0 where
  place : ℕ
  row : WaitRow
  there : slice_get rows place ≡ Some row
  train : row.t.0 ≡ t

further : (x : WaitRow) (rows : List WaitRow) (t : ℕ) → HasTrain rows t → HasTrain (x ∷ rows) t
further x rows t has = record { place = suc has.place; row = has.row; there = has.there; train = has.train }

-- the train that a row names has a row, or is the one where they end
next_in : (rows : List WaitRow) (t end k : ℕ) (row : WaitRow) → LeadsTo t rows end → slice_get rows k ≡ Some row → HasTrain rows row.u.0 ⊎ (row.u.0 ≡ end)
next_in [] t end k row leads at = absurd (cc)
next_in (x ∷ []) t end zero row leads at = inr (ap (λ (r : WaitRow). r.u.0) (sym (same_Some x row at)) ∙ leads.1)
next_in (x ∷ y ∷ rows) t end zero row leads at =
    inl (record { place = 1; row = y; there = refl; train = leads.1.0 ∙ ap (λ (r : WaitRow). r.u.0) (same_Some x row at) })
next_in (x ∷ rows) t end (suc k) row leads at =
    elim (next_in rows x.u.0 end k row leads.1 at) [ inl has ↦ inl (further x rows row.u.0 has) | inr is ↦ inr is ]

first_in : (rows : List WaitRow) (t end : ℕ) → rows ≢ [] → LeadsTo t rows end → HasTrain rows t
first_in [] t end some leads = absurd (some refl)
first_in (row ∷ rows) t end some leads = record { place = 0; row = row; there = refl; train = leads.0 }

next_of : (report : Report) (rows : List WaitRow) (t k : ℕ) (row : WaitRow) → IsJam report t rows → slice_get rows k ≡ Some row → HasTrain rows row.u.0
next_of report rows t k row jam at =
    elim (next_in rows t t k row jam.around at) [
      | inl has ↦ has
      | inr is ↦ subst (HasTrain rows) (sym is) (first_in rows t t jam.some jam.around)
    ]

-- who follows the rows from a train of a jam stays in it
stays : (report : Report) (rows : List WaitRow) (t : ℕ) (walk : List WaitRow) (s end : ℕ) → IsJam report t rows → AllByRecursion (IsWait report) walk
    → LeadsTo s walk end → HasTrain rows s → HasTrain rows end
stays report rows t [] s end jam waits leads has = subst (HasTrain rows) leads has
stays report rows t (x ∷ walk) s end jam waits leads has =
    let same = one_wait report has.row x (all_get (IsWait report) rows has.place has.row jam.waits has.there) waits.0 (has.train ∙ sym leads.0) in
    stays report rows t walk x.u.0 end jam waits.1 leads.1
    (subst (λ (r : WaitRow). HasTrain rows r.u.0) same (next_of report rows t has.place has.row jam has.there))

-- from a row on, the rows lead to where they end
walk_from : (report : Report) (rows : List WaitRow) (t v end k : ℕ) (others : List WaitRow) (row : WaitRow) → IsJam report t rows
    → AllByRecursion (IsWait report) others → LeadsTo v others end → slice_get others k ≡ Some row → HasTrain rows row.t.0 → HasTrain rows end
walk_from report rows t v end k [] row jam waits leads at has = absurd (cc)
walk_from report rows t v end zero (x ∷ others) row jam waits leads at has =
    let same = same_Some x row at in
    stays report rows t (x ∷ others) x.t.0 end jam waits (refl, leads.1) (subst (λ (r : WaitRow). HasTrain rows r.t.0) (sym same) has)
walk_from report rows t v end (suc k) (x ∷ others) row jam waits leads at has =
    walk_from report rows t x.u.0 end k others row jam waits.1 leads.1 at has

at_least : (report : Report) (rows : List WaitRow) (t v : ℕ) → IsJam report t rows → HasTrain rows v → t ≤ v
at_least report rows t v jam has =
    subst (λ (k : ℕ). t ≤ k) has.train (all_get (λ (row : WaitRow). t ≤ row.t.0) rows has.place has.row jam.least has.there)

below_other : (report : Report) (t v j k : ℕ) (rows others : List WaitRow) (row other : WaitRow) → IsJam report t rows → IsJam report v others
    → slice_get rows j ≡ Some row → slice_get others k ≡ Some other → row.t.0 ≡ other.t.0 → t ≤ v
below_other report t v j k rows others row other one two at at2 same =
    at_least report rows t v one
    (walk_from report rows t v v k others other one two.waits two.around at2 (record { place = j; row = row; there = at; train = same }))

-- rows that lead from one train to another, which is in none of them before, are the only ones
same_rows : (report : Report) (xs ys : List WaitRow) (t end : ℕ) → LeadsTo t xs end → LeadsTo t ys end → AllByRecursion (IsWait report) xs
    → AllByRecursion (IsWait report) ys → IsNotIn end xs → IsNotIn end ys → xs ≡ ys
same_rows report [] [] t end one two w1 w2 n1 n2 = refl
same_rows report [] (y ∷ ys) t end one two w1 w2 n1 n2 = absurd (n2.0 (two.0 ∙ one))
same_rows report (x ∷ xs) [] t end one two w1 w2 n1 n2 = absurd (n1.0 (one.0 ∙ two))
same_rows report (x ∷ xs) (y ∷ ys) t end one two w1 w2 n1 n2 =
    let same = one_wait report x y w1.0 w2.0 (one.0 ∙ sym two.0) in
    ap₂ (λ (r : WaitRow) (rs : List WaitRow). r ∷ rs) same
    (same_rows report xs ys y.u.0 end (subst (λ (r : WaitRow). LeadsTo r.u.0 xs end) same one.1) two.1 w1.1 w2.1 n1.1 n2.1)

same_from : (report : Report) (t : ℕ) (rows others : List WaitRow) → rows ≢ [] → others ≢ [] → LeadsTo t rows t → LeadsTo t others t
    → AllByRecursion (IsWait report) rows → AllByRecursion (IsWait report) others → AreApart rows → AreApart others → rows ≡ others
same_from report t [] others some more one two w1 w2 a1 a2 = absurd (some refl)
same_from report t (x ∷ xs) [] some more one two w1 w2 a1 a2 = absurd (more refl)
same_from report t (x ∷ xs) (y ∷ ys) some more one two w1 w2 a1 a2 =
    let same = one_wait report x y w1.0 w2.0 (one.0 ∙ sym two.0) in
    ap₂ (λ (r : WaitRow) (rs : List WaitRow). r ∷ rs) same
    (same_rows report xs ys y.u.0 t (subst (λ (r : WaitRow). LeadsTo r.u.0 xs t) same one.1) two.1 w1.1 w2.1
    (subst (λ (k : ℕ). IsNotIn k xs) one.0 a1.0) (subst (λ (k : ℕ). IsNotIn k ys) two.0 a2.0))

pub share_none : (report : Report) (t v j k : ℕ) (rows others : List WaitRow) (row other : WaitRow) → IsJam report t rows → IsJam report v others
    → slice_get rows j ≡ Some row → slice_get others k ≡ Some other → row.t.0 ≡ other.t.0 → rows ≡ others
share_none report t v j k rows others row other one two at at2 same =
    let up = below_other report t v j k rows others row other one two at at2 same in
    let down = below_other report v t k j others rows other row two one at2 at (sym same) in
    let first : t ≡ v = omega arith in
    let moved = subst (λ (n : ℕ). IsJam report n rows) first one in
    same_from report v rows others one.some two.some moved.around two.around one.waits two.waits one.apart two.apart
