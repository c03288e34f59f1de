-- One line more was judged.
use Rattle.std.proofs.Common.{◌≡◌, ℕ, zero, suc, ◌+◌, ◌<◌, Bool, true, List, [], ◌∷◌, ◌++◌, length, fold, take, slice_get, Option, Some, None, ◌⊎◌, inl, inr, ⊎_elim, refl, sym, ap, ◌∙◌, subst, append_assoc, length-append, arith}
use Rattle.std.specs.Prelude.{is_some}
use Rattle.std.proofs.lemmas.Grind.{fold-append}
use Rattle.std.proofs.lemmas.List.{take_more}
use Rattle.std.proofs.lemmas.Option.{same_Some, slice_get_within, get_or_from_slice_get}
use Rattle.rl_model.specs.declared.moves.Move.{Move}
use Rattle.rl_model.specs.declared.network.NetworkPlan.{NetworkPlan}
use Rattle.rl_model.specs.declared.report.Outcome.{Outcome}
use Rattle.rl_model.specs.declared.report.Report.{Report}
use Rattle.rl_model.specs.World.{World, start}
use Rattle.rl_model.specs.Moves.{guards, AllHold, FirstFails, after, guard, done}
use Rattle.rl_model.specs.Safety.{Guarded, GuardedFrom, IsSafeRun}
use Rattle.rl_model.specs.Reports.{FateFits, IsRightOutcome, outcome_guards, made_in, refused_in}
use Rattle.rl_domain.specs.Rows.{world_of, Fits}
use Rattle.rl_audit.specs.declared.counts.Count.{Count}
use Rattle.rl_audit.specs.declared.judge.Judge.{Judge}
use Rattle.rl_audit.specs.declared.judge.Failure.{Failure}
use Rattle.rl_audit.specs.Counting.{AreCounts}
use Rattle.rl_audit.specs.declared.verdict.Verdict.{Verdict}
use Rattle.rl_audit.specs.declared.verdict.Verdict.TheVariants.{Safe, Bad}
use Rattle.rl_audit.specs.Verdicts.{IsFirstBadMove, IsFirstBadOutcome, IsVerdict}
use Rattle.rl_audit.specs.Judging.{IsGood, HasJudged, HasJudgedTrains, OutcomeTested, VerdictIs}
use Rattle.rl_audit.proofs.Counting.{there}

guarded_more : (net : NetworkPlan) (w : World) (moves : List Move) (m : Move) → GuardedFrom net w moves → AllHold (guards net (fold after w moves) m)
    → GuardedFrom net w (moves ++ m ∷ [])
guarded_more net w [] m before here = (here, tt)
guarded_more net w (x ∷ moves) m before here = (before.0, guarded_more net (after w x) moves m before.1 here)

one_longer : {A : Type 0} (xs : List A) (y : A) → length (xs ++ y ∷ []) ≡ length xs + 1
one_longer xs y = length-append xs (y ∷ [])

-- a guard that failed first still does when more is read
still_bad : (net : NetworkPlan) (moves : List Move) (m : Move) (line number : ℕ) → IsFirstBadMove net moves line number
    → IsFirstBadMove net (moves ++ m ∷ []) line number
still_bad net moves m line number bad =
    record {
      before = bad.before;
      move = bad.move;
      after = bad.after ++ m ∷ [];
      split = ap (λ ms. ms ++ m ∷ []) bad.split ∙ append_assoc bad.before (bad.move ∷ bad.after) (m ∷ []);
      guarded = bad.guarded;
      fails = bad.fails;
      place = bad.place;
    }

pub not_none : {A : Type 0} (o : Option A) (b : Bool) → b ≡ is_some o → b ≡ true → o ≡ None → ⊥
not_none None b test is e = cc
not_none (Some x) b test is e = cc

-- a guard failed before
pub read_on : (net : NetworkPlan) (moves : List Move) (m : Move) (old : Judge) (n : ℕ) → n ≡ old.moves + 1 → (old.failure ≡ None → ⊥) → HasJudged net moves old
    → HasJudged net (moves ++ m ∷ []) (record old { moves = n })
read_on net moves m old n next failed judged =
    let count = judged.count in
    let longer = one_longer moves m in
    record {
      fits = judged.fits;
      trains = judged.trains;
      count = omega (arith, next, count, longer);
      good = λ e. absurd (failed e);
      bad = λ f e. still_bad net moves m f.line f.guard (judged.bad f e);
    }

-- every guard of the move holds
pub move_made : (net : NetworkPlan) (moves : List Move) (m : Move) (old new : Judge) → new.moves ≡ old.moves + 1 → old.failure ≡ None → new.failure ≡ None
    → AllHold (guards net (world_of net old.world) m) → world_of net new.world ≡ after (world_of net old.world) m → Fits net new.world
    → length new.counts.items ≡ length old.counts.items → (AreCounts moves old.counts.items → AreCounts (moves ++ m ∷ []) new.counts.items)
    → HasJudged net moves old → HasJudged net (moves ++ m ∷ []) new
move_made net moves m old new next fine still holds changed fits same counted judged =
    let count = judged.count in
    let longer = one_longer moves m in
    let good = judged.good fine in
    record {
      fits = fits;
      trains = same ∙ judged.trains;
      count = omega (arith, next, count, longer);
      good = λ e. record {
        guarded = guarded_more net (start net) moves m good.guarded (subst (λ w. AllHold (guards net w m)) good.world holds);
        world = changed ∙ ap (λ w. after w m) good.world ∙ sym (fold-append after (start net) moves (m ∷ []));
        counted = counted good.counted;
      };
      bad = λ f e. absurd (cc);
    }

-- a guard of the move fails
pub move_failed : (net : NetworkPlan) (moves : List Move) (m : Move) (old new : Judge) (line number : ℕ) → new.moves ≡ old.moves + 1 → old.failure ≡ None
    → new.failure ≡ Some (record { line = line; guard = number }) → line ≡ old.moves + 3
    → FirstFails number (guards net (world_of net old.world) m) → new.world ≡ old.world → new.counts ≡ old.counts
    → HasJudged net moves old → HasJudged net (moves ++ m ∷ []) new
move_failed net moves m old new line number next fine failure place fails world counts judged =
    let count = judged.count in
    let longer = one_longer moves m in
    let good = judged.good fine in
    record {
      fits = subst (Fits net) (sym world) judged.fits;
      trains = ap (λ c. length c.items) counts ∙ judged.trains;
      count = omega (arith, next, count, longer);
      good = λ e. absurd (cc);
      bad = λ f e.
          let same : record { line = line; guard = number } ≡ f = same_Some _ f (sym failure ∙ e) in
          subst (λ (g : Failure). IsFirstBadMove net (moves ++ m ∷ []) g.line g.guard) same
          (record {
            before = moves;
            move = m;
            after = [];
            split = refl;
            guarded = good.guarded;
            fails = subst (λ w. FirstFails number (guards net w m)) good.world fails;
            place = omega (arith, place, count);
          });
    }

-- behind the moves no outcome was read yet
pub no_trains_yet : (net : NetworkPlan) (tries : ℕ) (moves : List Move) (j : Judge) → HasJudged net moves j
    → HasJudgedTrains net (record { tries = tries; moves = moves; outcomes = [] }) j
no_trains_yet net tries moves j judged =
    record {
      fits = judged.fits;
      trains = judged.trains;
      count = judged.count;
      good = judged.good;
      right = λ e t o at. absurd (cc);
      bad = λ f e. inl (judged.bad f e);
    }

-- what holds of each item at its place, and of one more at the end
one_more_at : {A : Type 0} (P : ℕ → A → Type 0) (xs : List A) (y : A) → ((k : ℕ) (x : A) → slice_get xs k ≡ Some x → P k x) → P (length xs) y
    → (k : ℕ) (x : A) → slice_get (xs ++ y ∷ []) k ≡ Some x → P k x
one_more_at P [] y each here zero x at = subst (P 0) (same_Some y x at) here
one_more_at P [] y each here (suc k) x at = absurd (cc)
one_more_at P (z ∷ zs) y each here zero x at = each 0 x at
one_more_at P (z ∷ zs) y each here (suc k) x at = one_more_at (λ j. P (suc j)) zs y (λ j w is. each (suc j) w is) here k x at

within : {A : Type 0} (xs ys : List A) (i : ℕ) → i < length xs → slice_get (xs ++ ys) i ≡ slice_get xs i
within [] ys i h = absurd (omega arith)
within (x ∷ xs) ys zero h = refl
within (x ∷ xs) ys (suc i) h = within xs ys i (omega arith)

at_the_end : {A : Type 0} (xs : List A) (y : A) → slice_get (xs ++ y ∷ []) (length xs) ≡ Some y
at_the_end [] y = refl
at_the_end (x ∷ xs) y = at_the_end xs y

-- an outcome that failed first still does when more are read
still_bad_outcome : (net : NetworkPlan) (report : Report) (o : Outcome) (line number : ℕ) → IsFirstBadOutcome net report line number
    → IsFirstBadOutcome net (record report { outcomes = report.outcomes ++ o ∷ [] }) line number
still_bad_outcome net report o line number bad =
    let inside = slice_get_within report.outcomes bad.train bad.outcome bad.there in
    record {
      guarded = bad.guarded;
      train = bad.train;
      outcome = bad.outcome;
      there = within report.outcomes (o ∷ []) bad.train inside ∙ bad.there;
      before = λ t p low at. bad.before t p low (sym (within report.outcomes (o ∷ []) t (omega arith)) ∙ at);
      fails = bad.fails;
      place = bad.place;
    }

-- a guard failed before
pub train_on : (net : NetworkPlan) (report : Report) (o : Outcome) (j : Judge) → (j.failure ≡ None → ⊥) → HasJudgedTrains net report j
    → HasJudgedTrains net (record report { outcomes = report.outcomes ++ o ∷ [] }) j
train_on net report o j failed judged =
    record {
      fits = judged.fits;
      trains = judged.trains;
      count = judged.count;
      good = judged.good;
      right = λ e. absurd (failed e);
      bad = λ f e. ⊎_elim (λ move. inl move) (λ outcome. inr (still_bad_outcome net report o f.line f.guard outcome)) (judged.bad f e);
    }

-- the counted numbers of a train and its fate, in the words of the world and the counts, or in those of the moves
same_guards : (net : NetworkPlan) (tries : ℕ) (moves : List Move) (t : ℕ) (o : Outcome) (j : Judge) (x : Count) → IsGood net moves j.world j.counts.items
    → slice_get j.counts.items t ≡ Some x
    → guard 25 ((o.made ≡ x.made) × (o.refused ≡ x.refused)) (guard 26 (FateFits net tries (world_of net j.world) t o.made o.refused o.fate) done)
    ≡ outcome_guards net tries moves t o
same_guards net tries moves t o j x good at =
    let counts = good.counted t x at in
    ap (λ n. guard 25 ((o.made ≡ n) × (o.refused ≡ x.refused)) (guard 26 (FateFits net tries (world_of net j.world) t o.made o.refused o.fate) done)) counts.0
    ∙ ap (λ n. guard 25 ((o.made ≡ made_in moves t) × (o.refused ≡ n)) (guard 26 (FateFits net tries (world_of net j.world) t o.made o.refused o.fate) done))
    counts.1
    ∙ ap (λ w. guard 25 ((o.made ≡ made_in moves t) × (o.refused ≡ refused_in moves t)) (guard 26 (FateFits net tries w t o.made o.refused o.fate) done))
    good.world

-- the outcome is right
pub train_right : (net : NetworkPlan) (report : Report) (tries t : ℕ) (o : Outcome) (j : Judge) → report.tries ≡ tries → length report.outcomes ≡ t
    → t < length net.trains
    → j.failure ≡ None → OutcomeTested net tries j t o None → HasJudgedTrains net report j
    → HasJudgedTrains net (record report { outcomes = report.outcomes ++ o ∷ [] }) j
train_right net report tries t o j tried place low fine tested judged =
    let good = judged.good fine in
    let trains = judged.trains in
    let found = there j.counts.items t (omega arith) in
    let holds = subst AllHold (same_guards net tries report.moves t o j found.0 good found.1) (tested found.0 found.1) in
    let here : IsRightOutcome net report.tries report.moves (length report.outcomes) o =
    subst (λ n. IsRightOutcome net n report.moves (length report.outcomes) o) (sym tried)
    (subst (λ n. IsRightOutcome net tries report.moves n o) (sym place) holds) in
    record {
      fits = judged.fits;
      trains = judged.trains;
      count = judged.count;
      good = judged.good;
      right = λ e. one_more_at (λ k p. IsRightOutcome net report.tries report.moves k p) report.outcomes o (judged.right e) here;
      bad = λ f e. absurd (cc);
    }

-- a guard of the outcome fails
pub train_wrong : (net : NetworkPlan) (report : Report) (tries t : ℕ) (o : Outcome) (j new : Judge) (line number : ℕ) → report.tries ≡ tries
    → length report.outcomes ≡ t → t < length net.trains
    → j.failure ≡ None → OutcomeTested net tries j t o (Some number)
    → new ≡ record j { failure = Some (record { line = line; guard = number }) } → line ≡ j.moves + 3 + t
    → HasJudgedTrains net report j
    → HasJudgedTrains net (record report { outcomes = report.outcomes ++ o ∷ [] }) new
train_wrong net report tries t o j new line number tried place low fine tested is line_is judged =
    let good = judged.good fine in
    let trains = judged.trains in
    let count = judged.count in
    let found = there j.counts.items t (omega arith) in
    let fails = subst (FirstFails number) (same_guards net tries report.moves t o j found.0 good found.1) (tested found.0 found.1) in
    subst (HasJudgedTrains net (record report { outcomes = report.outcomes ++ o ∷ [] })) (sym is)
    (record {
      fits = judged.fits;
      trains = judged.trains;
      count = judged.count;
      good = λ e. absurd (cc);
      right = λ e. absurd (cc);
      bad = λ f e.
          let same = same_Some (record { line = line; guard = number }) f e in
          subst (λ (g : Failure). IsFirstBadMove net report.moves g.line g.guard
          ⊎ IsFirstBadOutcome net (record report { outcomes = report.outcomes ++ o ∷ [] }) g.line g.guard) same
          (inr (record {
            guarded = good.guarded;
            train = length report.outcomes;
            outcome = o;
            there = at_the_end report.outcomes o;
            before = λ k p under at. judged.right fine k p (sym (within report.outcomes (o ∷ []) k under) ∙ at);
            fails = subst (λ n. FirstFails number (outcome_guards net n report.moves (length report.outcomes) o)) (sym tried)
                (subst (λ n. FirstFails number (outcome_guards net tries report.moves n o)) (sym place) fails);
            place = omega (arith, line_is, count, place);
          }));
    })

-- one item more of a list
pub take_next : {A : Type 0} (xs : List A) (k : ℕ) (x : A) → slice_get xs k ≡ Some x → take (k + 1) xs ≡ take k xs ++ x ∷ []
take_next xs k x at =
    take_more xs k x (slice_get_within xs k x at) ∙ ap (λ y. take k xs ++ y ∷ []) (get_or_from_slice_get xs k x x at)

pub length_of_counts : (new old : Judge) → new.counts ≡ old.counts → length new.counts.items ≡ length old.counts.items
length_of_counts new old e = ap (λ c. length c.items) e

-- the verdict, where the lines of all trains were judged
pub verdict_from : (net : NetworkPlan) (report : Report) (j : Judge) (v : Verdict) → (Guarded net report.moves → IsSafeRun net report.moves)
    → length report.outcomes ≡ length net.trains
    → HasJudgedTrains net report j → VerdictIs j v → IsVerdict net report v
verdict_from net report j (Safe n) safe all judged is =
    (is.1 ∙ judged.count, record { run = safe (judged.good is.0).guarded; trains = all; outcomes = judged.right is.0 })
verdict_from net report j (Bad line number) safe all judged is = judged.bad (record { line = line; guard = number }) is
