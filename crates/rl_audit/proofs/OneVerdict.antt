-- A report has one verdict.
use Rattle.std.proofs.Common.{◌≡◌, ℕ, ◌<◌, List, [], ◌∷◌, ◌++◌, length, fold, slice_get, ◌⊎◌, inl, inr, refl, sym, ap, ◌∙◌, subst, arith}
use Rattle.std.proofs.lemmas.Option.{same_Some}
use Rattle.rl_model.specs.declared.moves.Move.{Move}
use Rattle.rl_model.specs.declared.network.NetworkPlan.{NetworkPlan}
use Rattle.rl_model.specs.declared.report.Outcome.{Outcome}
use Rattle.rl_model.specs.declared.report.Report.{Report}
use Rattle.rl_model.specs.World.{World, start}
use Rattle.rl_model.specs.Moves.{Guards, guards, AllHold, FirstFails, after, guard, done}
use Rattle.rl_model.specs.Safety.{Guarded, GuardedFrom, world_after}
use Rattle.rl_model.specs.Reports.{outcome_guards, IsRightReport}
use Rattle.rl_audit.specs.declared.verdict.Verdict.{Verdict}
use Rattle.rl_audit.specs.declared.verdict.Verdict.TheVariants.{Safe, Bad}
use Rattle.rl_audit.specs.Verdicts.{IsFirstBadMove, IsFirstBadOutcome, IsVerdict}

-- not all guards hold where one fails first, and one alone fails first
none_fails : (gs : Guards) (n : ℕ) → AllHold gs → FirstFails n gs → ⊥
none_fails done n all fails = fails
none_fails (guard k holds rest) n all (inl here) = here.1 all.0
none_fails (guard k holds rest) n all (inr later) = none_fails rest n all.1 later.1

one_fails : (gs : Guards) (n m : ℕ) → FirstFails n gs → FirstFails m gs → n ≡ m
one_fails done n m fails other = absurd fails
one_fails (guard k holds rest) n m (inl here) (inl there) = here.0 ∙ sym there.0
one_fails (guard k holds rest) n m (inl here) (inr later) = absurd (here.1 later.0)
one_fails (guard k holds rest) n m (inr later) (inl here) = absurd (here.1 later.0)
one_fails (guard k holds rest) n m (inr later) (inr other) = one_fails rest n m later.1 other.1

-- the guards of a move in a guarded list hold in the world before it
guarded_at : (net : NetworkPlan) (w : World) (before : List Move) (m : Move) (later : List Move) → GuardedFrom net w (before ++ m ∷ later)
    → AllHold (guards net (fold after w before) m)
guarded_at net w [] m later all = all.0
guarded_at net w (x ∷ before) m later all = guarded_at net (after w x) before m later all.1

not_guarded : (net : NetworkPlan) (moves : List Move) (line number : ℕ) → IsFirstBadMove net moves line number → Guarded net moves → ⊥
not_guarded net moves line number bad all =
    none_fails _ number (guarded_at net (start net) bad.before bad.move bad.after (subst (λ ms. GuardedFrom net (start net) ms) bad.split all)) bad.fails

-- a list that begins with two lists, of which the first is the shorter
record Longer (short long : List Move) (m : Move) (rest : List Move) : Type 0 where
  between : List Move
  is : long ≡ short ++ m ∷ between

longer : (short long : List Move) (m n : Move) (rest tail : List Move) → length short < length long → short ++ m ∷ rest ≡ long ++ n ∷ tail
    → Longer short long m rest
longer [] [] m n rest tail less e = absurd (omega arith)
longer [] (x ∷ long) m n rest tail less e = let first : m ≡ x = cc in record { between = long; is = ap (λ y. y ∷ long) (sym first) }
longer (x ∷ short) [] m n rest tail less e = absurd (omega arith)
longer (x ∷ short) (y ∷ long) m n rest tail less e =
    let first : x ≡ y = cc in
    let others : short ++ m ∷ rest ≡ long ++ n ∷ tail = cc in
    let by = longer short long m n rest tail (omega arith) others in
    record { between = by.between; is = ap (λ z. z ∷ long) (sym first) ∙ ap (λ ms. x ∷ ms) by.is }

record SameFront (front other : List Move) (m n : Move) : Type 0 where
  fronts : front ≡ other
  moves : m ≡ n

same_front : (front other : List Move) (m n : Move) (rest tail : List Move) → length front ≡ length other → front ++ m ∷ rest ≡ other ++ n ∷ tail
    → SameFront front other m n
same_front [] [] m n rest tail same e = record { fronts = refl; moves = cc }
same_front [] (y ∷ other) m n rest tail same e = absurd (omega arith)
same_front (x ∷ front) [] m n rest tail same e = absurd (omega arith)
same_front (x ∷ front) (y ∷ other) m n rest tail same e =
    let first : x ≡ y = cc in
    let others : front ++ m ∷ rest ≡ other ++ n ∷ tail = cc in
    let by = same_front front other m n rest tail (omega arith) others in
    record { fronts = ap (λ z. z ∷ front) first ∙ ap (λ ms. y ∷ ms) by.fronts; moves = by.moves }

-- a move at which a guard fails stands in no guarded list
not_before : (net : NetworkPlan) (moves : List Move) (line number place other : ℕ) (bad : IsFirstBadMove net moves line number)
    (later : IsFirstBadMove net moves place other) → length bad.before < length later.before → ⊥
not_before net moves line number place other bad later less =
    let by = longer bad.before later.before bad.move later.move bad.after later.after less (sym bad.split ∙ later.split) in
    none_fails _ number (guarded_at net (start net) bad.before bad.move by.between (subst (λ ms. GuardedFrom net (start net) ms) by.is later.guarded)) bad.fails

order : (a b : ℕ) → (a ≡ b) ⊎ ((a < b) ⊎ (b < a))
order a b = grind arith

bad_is : (line place number other : ℕ) → line ≡ place → number ≡ other → Bad line number ≡ Bad place other
bad_is line place number other lines numbers = ap (λ l. Bad l number) lines ∙ ap (λ n. Bad place n) numbers

one_bad_move : (net : NetworkPlan) (moves : List Move) (line number place other : ℕ) → IsFirstBadMove net moves line number
    → IsFirstBadMove net moves place other → Bad line number ≡ Bad place other
one_bad_move net moves line number place other bad second =
    elim (order (length bad.before) (length second.before)) [
      | inl same ↦
          let front = same_front bad.before second.before bad.move second.move bad.after second.after same (sym bad.split ∙ second.split) in
          let place_is = bad.place in
          let place_is2 = second.place in
          let fails = subst (λ (m : Move). FirstFails number (guards net (world_after net second.before) m)) front.moves
          (subst (λ (ms : List Move). FirstFails number (guards net (world_after net ms) bad.move)) front.fronts bad.fails) in
          bad_is line place number other (omega (arith, same, place_is, place_is2)) (one_fails _ number other fails second.fails)
      | inr (inl less) ↦ absurd (not_before net moves line number place other bad second less)
      | inr (inr more) ↦ absurd (not_before net moves place other line number second bad more)
    ]

not_right : (net : NetworkPlan) (report : Report) (line number place other : ℕ) (bad : IsFirstBadOutcome net report line number)
    (later : IsFirstBadOutcome net report place other) → bad.train < later.train → ⊥
not_right net report line number place other bad later less =
    none_fails (outcome_guards net report.tries report.moves bad.train bad.outcome) number (later.before bad.train bad.outcome less bad.there) bad.fails

one_bad_outcome : (net : NetworkPlan) (report : Report) (line number place other : ℕ) → IsFirstBadOutcome net report line number
    → IsFirstBadOutcome net report place other → Bad line number ≡ Bad place other
one_bad_outcome net report line number place other bad second =
    elim (order bad.train second.train) [
      | inl same ↦
          let outcomes = same_Some bad.outcome second.outcome (sym bad.there ∙ ap (λ t. slice_get report.outcomes t) same ∙ second.there) in
          let place_is = bad.place in
          let place_is2 = second.place in
          let fails = subst (λ (o : Outcome). FirstFails number (outcome_guards net report.tries report.moves second.train o)) outcomes
          (subst (λ (t : ℕ). FirstFails number (outcome_guards net report.tries report.moves t bad.outcome)) same bad.fails) in
          bad_is line place number other (omega (arith, same, place_is, place_is2))
          (one_fails (outcome_guards net report.tries report.moves second.train second.outcome) number other fails second.fails)
      | inr (inl less) ↦ absurd (not_right net report line number place other bad second less)
      | inr (inr more) ↦ absurd (not_right net report place other line number second bad more)
    ]

not_safe : (net : NetworkPlan) (report : Report) (line number : ℕ) → IsRightReport net report
    → IsFirstBadMove net report.moves line number ⊎ IsFirstBadOutcome net report line number → ⊥
not_safe net report line number right (inl bad) = not_guarded net report.moves line number bad right.run.guarded
not_safe net report line number right (inr bad) =
    none_fails (outcome_guards net report.tries report.moves bad.train bad.outcome) number (right.outcomes bad.train bad.outcome bad.there) bad.fails

pub only_verdict : (net : NetworkPlan) (report : Report) (verdict other : Verdict) → IsVerdict net report verdict → IsVerdict net report other → verdict ≡ other
only_verdict net report (Safe m) (Safe n) is is2 = ap Safe (is.0 ∙ sym is2.0)
only_verdict net report (Safe m) (Bad line number) is is2 = absurd (not_safe net report line number is.1 is2)
only_verdict net report (Bad line number) (Safe n) is is2 = absurd (not_safe net report line number is2.1 is)
only_verdict net report (Bad line number) (Bad place other) (inl bad) (inl second) = one_bad_move net report.moves line number place other bad second
only_verdict net report (Bad line number) (Bad place other) (inl bad) (inr second) = absurd (not_guarded net report.moves line number bad second.guarded)
only_verdict net report (Bad line number) (Bad place other) (inr bad) (inl second) = absurd (not_guarded net report.moves place other second bad.guarded)
only_verdict net report (Bad line number) (Bad place other) (inr bad) (inr second) = one_bad_outcome net report line number place other bad second
