-- The last refusal of each train, as moves are looked at, and that a train has one.
use Rattle.std.proofs.Common.{◌≡◌, ℕ, ◌+◌, ◌<◌, true, false, List, [], ◌∷◌, ◌++◌, length, get_or, slice_get, slice_set, Option, Some, None, inl, inr, refl, sym, ap, ◌∙◌, subst, arith}
use Rattle.std.proofs.lemmas.Bool.{cases_order, eq-eqb, ne_eqb, false≢true}
use Rattle.std.proofs.lemmas.Option.{same_Some, slice_get_within, slice_get-get_or}
use Rattle.rl_base.specs.declared.ids.TrainId.{TrainId}
use Rattle.rl_base.specs.declared.ids.SegId.{SegId}
use Rattle.rl_base.specs.declared.ids.BoxId.{BoxId}
use Rattle.rl_model.specs.declared.moves.Move.{Move}
use Rattle.rl_model.specs.declared.moves.Move.TheVariants.{Refuse, Bar}
use Rattle.rl_model.specs.declared.network.NetworkPlan.{NetworkPlan}
use Rattle.rl_model.specs.declared.report.Report.{Report}
use Rattle.rl_model.specs.Moves.{IsMoveOf}
use Rattle.rl_model.specs.Reports.{is_refusal}
use Rattle.rl_jam.specs.declared.waits.WaitRow.{WaitRow}
use Rattle.rl_jam.specs.Jams.{Refuses, IsLastRefusal, IsSpent, IsWait}
use Rattle.rl_jam.specs.Finding.{IsLastOf, AreLast, IsNoted, IsWaitOf}
use Rattle.rl_jam.proofs.Lists.{one_longer, push_cases, at_end, kept_get, each_but}

-- a move that isn't a refusal of the train changes nothing for it
not_refused : (moves : List Move) (m : Move) (t : ℕ) (x : Option WaitRow) → is_refusal t m ≡ false → IsLastOf moves t x → IsLastOf (moves ++ m ∷ []) t x
not_refused moves m t (Some row) other of =
    let last = of.1 in (
      of.0,
      record {
        place = last.place;
        move = last.move;
        there = kept_get moves (m ∷ []) last.place last.move last.there;
        refuses = last.refuses;
        last = λ k n above at.
            elim (push_cases moves m n k at) [
              | inl old ↦ last.last k n above old.1
              | inr new ↦ subst (λ (q : Move). is_refusal t q ≡ false) new.1 other
            ];
        line_is = last.line_is;
      },
    )
not_refused moves m t None other none = λ k n at.
    elim (push_cases moves m n k at) [
      | inl old ↦ none k n old.1
      | inr new ↦ subst (λ (q : Move). is_refusal t q ≡ false) new.1 other
    ]

-- a refusal is the last one
refused : (moves : List Move) (m : Move) (t u : TrainId) (line : ℕ) → Refuses m t.0 u.0 → line ≡ length moves + 3
    → IsLastOf (moves ++ m ∷ []) t.0 (Some (record { t = t; u = u; line = line }))
refused moves m t u line refuses line_is = (
  refl,
  record {
    place = length moves;
    move = m;
    there = at_end moves m;
    refuses = refuses;
    last = λ k n above at. let within = slice_get_within (moves ++ m ∷ []) k n at in let longer = one_longer moves m in absurd (omega arith);
    line_is = line_is;
  },
)

noted : (moves : List Move) (m : Move) (t u : TrainId) (line : ℕ) (last : List (Option WaitRow)) → Refuses m t.0 u.0
    → ((x : ℕ) → (x ≡ t.0 → ⊥) → is_refusal x m ≡ false) → line ≡ length moves + 3 → AreLast moves last
    → AreLast (moves ++ m ∷ []) (slice_set last t.0 (Some (record { t = t; u = u; line = line })))
noted moves m t u line last refuses others line_is are =
    each_but (λ (k : ℕ) (x : Option WaitRow). IsLastOf (moves ++ m ∷ []) k x) last t.0 (Some (record { t = t; u = u; line = line }))
    (λ k x apart at. not_refused moves m k x (others k apart) (are k x at))
    (refused moves m t u line refuses line_is)

pub noted_refuse : (moves : List Move) (t : TrainId) (s : SegId) (b : BoxId) (u : TrainId) (line : ℕ) (last : List (Option WaitRow))
    → line ≡ length moves + 3 → AreLast moves last
    → AreLast (moves ++ Refuse t s b u ∷ []) (slice_set last t.0 (Some (record { t = t; u = u; line = line })))
noted_refuse moves t s b u line last = noted moves (Refuse t s b u) t u line last (refl, refl) (λ x apart. ne_eqb t.0 x (λ e. apart (sym e)))

pub noted_bar : (moves : List Move) (t : TrainId) (b : BoxId) (u : TrainId) (line : ℕ) (last : List (Option WaitRow))
    → line ≡ length moves + 3 → AreLast moves last
    → AreLast (moves ++ Bar t b u ∷ []) (slice_set last t.0 (Some (record { t = t; u = u; line = line })))
noted_bar moves t b u line last = noted moves (Bar t b u) t u line last (refl, refl) (λ x apart. ne_eqb t.0 x (λ e. apart (sym e)))

-- a move that refuses nobody
pub noted_other : (moves : List Move) (m : Move) (last : List (Option WaitRow)) → ((t : ℕ) → is_refusal t m ≡ false) → AreLast moves last
    → AreLast (moves ++ m ∷ []) last
noted_other moves m last none are = λ t x at. not_refused moves m t x (none t) (are t x at)

pub refuses_nobody : (m : Move) → ((t : TrainId) (s : SegId) (b : BoxId) (u : TrainId) → m ≡ Refuse t s b u → ⊥)
    → ((t : TrainId) (b : BoxId) (u : TrainId) → m ≡ Bar t b u → ⊥) → (x : ℕ) → is_refusal x m ≡ false
refuses_nobody (Refuse t s b u) not_refuse not_bar x = absurd (not_refuse t s b u refl)
refuses_nobody (Bar t b u) not_refuse not_bar x = absurd (not_bar t b u refl)
refuses_nobody _ not_refuse not_bar x = refl

pub is_noted : (net : NetworkPlan) (n : ℕ) (m : Move) → n ≡ length net.trains → IsMoveOf net m → IsNoted n m
is_noted net n (Refuse t s b u) count of = subst (λ (k : ℕ). t.0 < k) (sym count) of.0
is_noted net n (Bar t b u) count of = subst (λ (k : ℕ). t.0 < k) (sym count) of.0
is_noted net n _ count of = tt

pub note_at : (net : NetworkPlan) (moves : List Move) (k : ℕ) (d : Move) (n : ℕ) → n ≡ length net.trains
    → ((j : ℕ) (m : Move) → slice_get moves j ≡ Some m → IsMoveOf net m) → k < length moves → IsNoted n (get_or moves k d)
note_at net moves k d n count of low = is_noted net n (get_or moves k d) count (of k (get_or moves k d) (slice_get-get_or moves k d low))

pub refuses_it : (m : Move) (t u : ℕ) → Refuses m t u → is_refusal t m ≡ true
refuses_it (Refuse x s b y) t u is = eq-eqb x.0 t is.0
refuses_it (Bar x b y) t u is = eq-eqb x.0 t is.0
refuses_it _ t u is = absurd is

one_refuser : (m : Move) (t u v : ℕ) → Refuses m t u → Refuses m t v → u ≡ v
one_refuser (Refuse x s b y) t u v is other = sym is.1 ∙ other.1
one_refuser (Bar x b y) t u v is other = sym is.1 ∙ other.1
one_refuser _ t u v is other = absurd is

-- a train has one last refusal
not_later : (moves : List Move) (t u v line other : ℕ) (a : IsLastRefusal moves t u line) (b : IsLastRefusal moves t v other) → a.place < b.place → ⊥
not_later moves t u v line other a b above = false≢true (sym (a.last b.place b.move above b.there) ∙ refuses_it b.move t v b.refuses)

one_last : (moves : List Move) (t u v line other : ℕ) → IsLastRefusal moves t u line → IsLastRefusal moves t v other → (u ≡ v) × (line ≡ other)
one_last moves t u v line other a b =
    elim (cases_order a.place b.place) [
      | inl same ↦
          let moves_are = same_Some a.move b.move (sym a.there ∙ ap (slice_get moves) same ∙ b.there) in
          let line_is = a.line_is in
          let other_is = b.line_is in
          (one_refuser b.move t u v (subst (λ (m : Move). Refuses m t u) moves_are a.refuses) b.refuses, omega arith)
      | inr (inl less) ↦ absurd (not_later moves t u v line other a b less)
      | inr (inr more) ↦ absurd (not_later moves t v u other line b a more)
    ]

same_row : (row other : WaitRow) → row.t.0 ≡ other.t.0 → row.u.0 ≡ other.u.0 → row.line ≡ other.line → row ≡ other
same_row row other t u line = λ i. record { t = record { 0 = t i }; u = record { 0 = u i }; line = line i }

-- a train waits in one way
pub one_wait : (report : Report) (row other : WaitRow) → IsWait report row → IsWait report other → row.t.0 ≡ other.t.0 → row ≡ other
one_wait report row other a b same =
    let both = one_last report.moves other.t.0 row.u.0 other.u.0 row.line other.line
    (subst (λ (t : ℕ). IsLastRefusal report.moves t row.u.0 row.line) same a.last) b.last in
    same_row row other same both.0 both.1

pub spent_within : (report : Report) (t : ℕ) → IsSpent report t → t < length report.outcomes
spent_within report t spent = slice_get_within report.outcomes t spent.outcome spent.there

pub wait_from : (report : Report) (t : ℕ) (x : Option WaitRow) → IsSpent report t → IsLastOf report.moves t x → IsWaitOf report t x
wait_from report t (Some row) spent last = (
  last.0,
  record {
    spent = subst (IsSpent report) (sym last.0) spent;
    last = subst (λ (k : ℕ). IsLastRefusal report.moves k row.u.0 row.line) (sym last.0) last.1;
  },
)
wait_from report t None spent none = λ row train wait.
    let last = subst (λ (k : ℕ). IsLastRefusal report.moves k row.u.0 row.line) train wait.last in
    false≢true (sym (none last.place last.move last.there) ∙ refuses_it last.move t row.u.0 last.refuses)

pub not_spent : (report : Report) (t : ℕ) → (IsSpent report t → ⊥) → IsWaitOf report t None
not_spent report t none = λ row train wait. none (subst (IsSpent report) train wait.spent)
