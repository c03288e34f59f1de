-- The jams in the order of their first trains.
use Rattle.std.proofs.Common.{◌≡◌, ℕ, ◌+◌, ◌<◌, List, [], ◌∷◌, ◌++◌, length, slice_get, Option, Some, None, inl, inr, refl, sym, ◌∙◌, subst, arith}
use Rattle.std.proofs.lemmas.Bool.{cases_lt}
use Rattle.rl_model.specs.declared.report.Report.{Report}
use Rattle.rl_jam.specs.declared.waits.WaitRow.{WaitRow}
use Rattle.rl_jam.specs.Jams.{IsWait, IsJam, AreJams, LeadsTo}
use Rattle.rl_jam.specs.Finding.{IsJamFrom, AreJamsBelow, with_jam}
use Rattle.std.specs.List.{AllByRecursion}
use Rattle.rl_jam.proofs.Lists.{push_cases, at_end, kept_get}
use Rattle.rl_jam.proofs.Refused.{spent_within}

-- a jam begins with one train, which is spent
one_start : (rows : List WaitRow) (t v a b : ℕ) → (rows ≡ [] → ⊥) → LeadsTo t rows a → LeadsTo v rows b → t ≡ v
one_start [] t v a b some one two = absurd (some refl)
one_start (row ∷ rows) t v a b some one two = sym one.0 ∙ two.0

pub one_first : (report : Report) (rows : List WaitRow) (t v : ℕ) → IsJam report t rows → IsJam report v rows → t ≡ v
one_first report rows t v a b = one_start rows t v t v a.some a.around b.around

first_spent : (report : Report) (rows : List WaitRow) (t end : ℕ) → (rows ≡ [] → ⊥) → LeadsTo t rows end → AllByRecursion (IsWait report) rows
    → t < length report.outcomes
first_spent report [] t end some leads waits = absurd (some refl)
first_spent report (row ∷ rows) t end some leads waits =
    subst (λ (k : ℕ). k < length report.outcomes) leads.0 (spent_within report row.t.0 waits.0.spent)

pub first_within : (report : Report) (rows : List WaitRow) (t : ℕ) → IsJam report t rows → t < length report.outcomes
first_within report rows t jam = first_spent report rows t t jam.some jam.around jam.waits

pub collected_none : (report : Report) → AreJamsBelow report 0 []
collected_none report =
    record {
      each = λ k rows at. absurd (cc);
      all = λ t rows low jam. absurd (omega arith);
      rising = λ j k t v rows others less at. absurd (cc);
    }

pub collected_more : (report : Report) (n : ℕ) (jams : List (List WaitRow)) (x : Option (List WaitRow)) → AreJamsBelow report n jams
    → IsJamFrom report n x → AreJamsBelow report (n + 1) (with_jam jams x)
collected_more report n jams None below none =
    record {
      each = λ k rows at. let was = below.each k rows at in let low = was.1 in (was.0, omega arith, was.2);
      all = λ t rows low jam.
          elim (cases_lt t n) [
            | inl less ↦ below.all t rows less jam
            | inr not_less ↦ let same : t ≡ n = omega arith in absurd (none rows (subst (λ (k : ℕ). IsJam report k rows) same jam))
          ];
      rising = below.rising;
    }
collected_more report n jams (Some found) below is =
    record {
      each = λ k rows at.
          elim (push_cases jams found rows k at) [
            | inl old ↦ let was = below.each k rows old.1 in let low = was.1 in (was.0, omega arith, was.2)
            | inr new ↦ (n, omega arith, subst (IsJam report n) new.1 is.0)
          ];
      all = λ t rows low jam.
          elim (cases_lt t n) [
            | inl less ↦ let was = below.all t rows less jam in (was.0, kept_get jams (found ∷ []) was.0 rows was.1)
            | inr not_less ↦
                let same : t ≡ n = omega arith in
                let only = is.1 rows (subst (λ (k : ℕ). IsJam report k rows) same jam) in
                (length jams, subst (λ (xs : List WaitRow). slice_get (jams ++ found ∷ []) (length jams) ≡ Some xs) (sym only) (at_end jams found))
          ];
      rising = λ j k t v rows others less at at2 one two.
          elim (push_cases jams found others k at2) [
            | inl old ↦
                let low = old.0 in
                elim (push_cases jams found rows j at) [
                  | inl early ↦ below.rising j k t v rows others less early.1 old.1 one two
                  | inr late ↦ let at_j = late.0 in absurd (omega arith)
                ]
            | inr new ↦
                let at_k = new.0 in
                elim (push_cases jams found rows j at) [
                  | inl early ↦
                      let was = below.each j rows early.1 in
                      let low = was.1 in
                      let first = one_first report rows t was.0 one was.2 in
                      let second = one_first report others v n two (subst (IsJam report n) new.1 is.0) in
                      omega arith
                  | inr late ↦ let at_j = late.0 in absurd (omega arith)
                ]
          ];
    }

pub collected_all : (report : Report) (n : ℕ) (jams : List (List WaitRow)) → length report.outcomes ≡ n → AreJamsBelow report n jams → AreJams report jams
collected_all report n jams count below =
    record {
      each = λ k rows at. let was = below.each k rows at in (was.0, was.2);
      all = λ t rows jam. let within = first_within report rows t jam in below.all t rows (omega arith) jam;
      rising = below.rising;
    }
