-- The outcomes of a report by the minds in the end: their fates fit, and no train that rests is under way.
use Rattle.std.proofs.Common.{◌≡◌, ◌⊎◌, ℕ, ◌<◌, ◌≤◌, ◌==◌, nat_lt, Bool, true, false, cond, not, ◌&&◌, ◌||◌, List, map, length, slice_get, Some, refl, sym, ap, ◌∙◌}
use Rattle.std.proofs.Common.{subst, inl, inr, ⊎_elim, arith}
use Rattle.std.specs.List.{range_with_len}
use Rattle.std.proofs.lemmas.Bool.{and_parts, or_cases, cond_both, eqb-true, eqb-false, false≢true, lt-ltb}
use Rattle.std.proofs.lemmas.List.FromFn.{length-map-range_with_len, get_or-map-range_with_len}
use Rattle.std.proofs.lemmas.Option.{slice_get_within, get_or_from_slice_get}
use Rattle.rl_model.specs.declared.network.NetworkPlan.{NetworkPlan}
use Rattle.rl_model.specs.declared.report.Fate.{Fate}
use Rattle.rl_model.specs.declared.report.Fate.TheVariants.{Arrived, Spent, Underway}
use Rattle.rl_model.specs.Network.{steps_of}
use Rattle.rl_model.specs.declared.report.Outcome.{Outcome}
use Rattle.rl_model.specs.Reports.{Rests, FateFits, IsRightOutcome, made_in, refused_in}
use Rattle.rl_model.specs.Safety.{world_after}
use Rattle.rl_model.specs.World.{World}
use Rattle.rl_record.specs.declared.event.Event.{Event}
use Rattle.rl_steps.specs.Run.{state}
use Rattle.rl_tables.specs.declared.table.Tables.{Tables}
use Rattle.rl_train.specs.declared.mind.TrainMind.{TrainMind}
use Rattle.rl_protocol.specs.Agreement.{Agrees}
use Rattle.rl_train.specs.Jobs.{is_near}
use Rattle.rl_protocol.specs.Line.{Line}
use Rattle.rl_protocol.specs.Minds.{at_rest}
use Rattle.rl_protocol.specs.Refusals.{refusals_said}
use Rattle.rl_protocol.specs.State.{State}
use Rattle.rl_protocol.specs.TableLine.{line_of}
use Rattle.rl_protocol.specs.Worlds.{steps_made}
use Rattle.rl_safety.specs.Moves.{moves_of}
use Rattle.rl_safety.specs.Reading.{read, train_mind}
use Rattle.rl_safety.specs.Reports.{fate_by, fate_of, outcome_of, outcomes_of, mind_in}
use Rattle.rl_safety.specs.Rests.{IsResting, AllTrainsRest}
use Rattle.rl_safety.proofs.Rests.{rest_is}
use Rattle.rl_protocol.proofs.Moved.{item_there}
use Rattle.rl_steps.specs.declared.mind.Mind.{Mind}
use Rattle.rl_steps.specs.declared.mind.Mind.TheVariants.{Train, Track, Box, Machine}
use Rattle.rl_train.specs.Mind as trains
use Rattle.rl_tables.specs.declared.table.TrainTable.{TrainTable}
use Rattle.rl_safety.proofs.Attempts.{within_tries, rest_made, rest_total}

-- an item of a list over the first numbers
pub listed : {A : Type 0} (f : ℕ → A) (n t : ℕ) (x : A) → slice_get (map f (range_with_len 0 n)) t ≡ Some x → (t < n) × (f t ≡ x)
listed f n t x at =
    let within = slice_get_within (map f (range_with_len 0 n)) t x at in
    let there : t < n = omega (arith, length-map-range_with_len f 0 n) in
    (there, sym (get_or-map-range_with_len f 0 n t t x there (omega arith)) ∙ get_or_from_slice_get (map f (range_with_len 0 n)) t x x at)

-- the fate by the line, which is that by the table
abbrev line_fate : Line → ℕ → TrainMind → Fate
line_fate line t m = cond (at_rest line t m) (cond (m.step == line.steps t) Arrived Spent) Underway

fate_is : (tables : Tables) (t : ℕ) (x : TrainTable) (m : TrainMind) → slice_get tables.trains t ≡ Some x → line_fate (line_of tables) t m ≡ fate_of tables t m
fate_is tables t x m there =
    let steps : (line_of tables).steps t ≡ length x.rows = rw there refl in
    let by_table : fate_of tables t m ≡ fate_by x m = rw there refl in
    ap (λ b. cond b (cond (m.step == (line_of tables).steps t) Arrived Spent) Underway) (rest_is tables t x m there)
    ∙ ap (λ (k : ℕ). cond (trains.at_rest x m) (cond (m.step == k) Arrived Spent) Underway) steps
    ∙ sym by_table

-- the fate by the mind fits what the words say of the train
module _ (net : NetworkPlan) (tables : Tables) (tries : ℕ) (s : State) (w : World) (t : ℕ) (agrees : Agrees (line_of tables) tries s)
    (steps : (line_of tables).steps t ≡ steps_of net t) (stands : at_rest (line_of tables) t (s.trains t) ≡ true → Rests net w t) where
  Fits : Fate → Type 0
  Fits fate = FateFits net tries w t (steps_made (s.run t)) (refusals_said s t) fate

  fits_at_end : at_rest (line_of tables) t (s.trains t) ≡ true → Fits (cond ((s.trains t).step == (line_of tables).steps t) Arrived Spent)
  unfolding Fits
  fits_at_end rests = cond_both ((s.trains t).step == (line_of tables).steps t) Arrived Spent Fits arrived spent
    where
      arrived : ((s.trains t).step == (line_of tables).steps t) ≡ true → Fits Arrived
      arrived e = (rest_made (line_of tables) tries s agrees t rests ∙ eqb-true (s.trains t).step ((line_of tables).steps t) e ∙ steps, stands rests)

      spent : ((s.trains t).step == (line_of tables).steps t) ≡ false → Fits Spent
      spent e =
          let made = rest_made (line_of tables) tries s agrees t rests in
          let within = (agrees.attempts t).within in
          let short = eqb-false (s.trains t).step ((line_of tables).steps t) e in
          let ends =
          (and_parts (not (s.trains t).waits && is_near (s.trains t).job) ((s.trains t).step == (line_of tables).steps t || (s.trains t).left == 0) rests).1 in
          let none : (s.trains t).left ≡ 0 =
          ⊎_elim (λ d. absurd (false≢true (sym e ∙ d))) (λ d. eqb-true (s.trains t).left 0 d)
          (or_cases ((s.trains t).step == (line_of tables).steps t) ((s.trains t).left == 0) ends) in
          let total = rest_total (line_of tables) tries s agrees t rests in
          (omega arith, omega arith, stands rests)

  pub fate_fits : (x : TrainTable) → slice_get tables.trains t ≡ Some x
      → FateFits net tries w t (steps_made (s.run t)) (refusals_said s t) (fate_of tables t (s.trains t))
  unfolding Fits
  fate_fits x there =
      subst Fits (fate_is tables t x (s.trains t) there)
      (cond_both (at_rest (line_of tables) t (s.trains t)) (cond ((s.trains t).step == (line_of tables).steps t) Arrived Spent) Underway Fits fits_at_end
      (λ e. within_tries (line_of tables) tries s agrees t))

-- what the outcomes of a run stand on
pub record IsAccounted (net : NetworkPlan) (tables : Tables) (tries : ℕ) (events : List Event) : Type 0 where
  pub trains : length tables.trains ≡ length net.trains
  pub steps : (t : ℕ) → (line_of tables).steps t ≡ steps_of net t
  pub agrees : Agrees (line_of tables) tries (read tables tries (state tables tries events))
  pub made : (t : ℕ) → made_in (moves_of tables events) t ≡ steps_made ((read tables tries (state tables tries events)).run t)
  pub refused : (t : ℕ) → refused_in (moves_of tables events) t ≡ refusals_said (read tables tries (state tables tries events)) t
  pub rests : (t : ℕ) → t < length net.trains → at_rest (line_of tables) t (mind_in tables tries events t) ≡ true
      → Rests net (world_after net (moves_of tables events)) t

module _ (net : NetworkPlan) (tables : Tables) (tries : ℕ) (events : List Event) (accounted : IsAccounted net tables tries events) where
  pub outcomes_trains : length (outcomes_of tables tries events) ≡ length net.trains
  outcomes_trains =
      length-map-range_with_len (λ t. outcome_of tables (moves_of tables events) t (mind_in tables tries events t)) 0 (length tables.trains) ∙ accounted.trains

  listed_outcome : (t : ℕ) (o : Outcome) → slice_get (outcomes_of tables tries events) t ≡ Some o
      → (t < length tables.trains) × (outcome_of tables (moves_of tables events) t (mind_in tables tries events t) ≡ o)
  listed_outcome t o at = listed (λ t. outcome_of tables (moves_of tables events) t (mind_in tables tries events t)) (length tables.trains) t o at

  pub right_outcomes : (t : ℕ) (o : Outcome) → slice_get (outcomes_of tables tries events) t ≡ Some o → IsRightOutcome net tries (moves_of tables events) t o
  right_outcomes t o at =
      let found = listed_outcome t o at in
      let trains = accounted.trains in
      let x = item_there tables.trains t found.0 in
      let fits =
      fate_fits net tables tries (read tables tries (state tables tries events)) (world_after net (moves_of tables events)) t accounted.agrees
      (accounted.steps t) (accounted.rests t (omega arith)) x.0 x.1 in
      subst (IsRightOutcome net tries (moves_of tables events) t) found.1
      ((refl, refl), (rw (accounted.made t, accounted.refused t) fits, tt))

  -- no number is above the attempts
  pub few_outcomes : (t : ℕ) (o : Outcome) → slice_get (outcomes_of tables tries events) t ≡ Some o → (o.made ≤ tries) × (o.refused ≤ tries)
  few_outcomes t o at =
      let found = listed_outcome t o at in
      let most = within_tries (line_of tables) tries (read tables tries (state tables tries events)) accounted.agrees t in
      let made = ap (λ (x : Outcome). x.made) found.1 in
      let refused = ap (λ (x : Outcome). x.refused) found.1 in
      let made_is = accounted.made t in
      let refused_is = accounted.refused t in
      (omega arith, omega arith)

-- a train that rests isn't under way
ended_fate : (x : TrainTable) (m : TrainMind) → trains.at_rest x m ≡ true → (fate_by x m ≡ Arrived) ⊎ (fate_by x m ≡ Spent)
ended_fate x m rests = by (m.step == length x.rows) refl
  where
    by : (b : Bool) → (m.step == length x.rows) ≡ b → (fate_by x m ≡ Arrived) ⊎ (fate_by x m ≡ Spent)
    by true e = inl (rw (rests, e) refl)
    by false e = inr (rw (rests, e) refl)

resting_mind : (tries : ℕ) (x : TrainTable) (mind : Mind) → IsResting x mind → trains.at_rest x (train_mind tries mind) ≡ true
resting_mind tries x (Train m) rests = rests
resting_mind tries x (Track m) rests = absurd rests
resting_mind tries x (Box m) rests = absurd rests
resting_mind tries x (Machine m) rests = absurd rests

pub ended_outcome : (tables : Tables) (tries : ℕ) (events : List Event) (t : ℕ) (o : Outcome) → AllTrainsRest tables (state tables tries events)
    → slice_get (outcomes_of tables tries events) t ≡ Some o → (o.fate ≡ Arrived) ⊎ (o.fate ≡ Spent)
ended_outcome tables tries events t o rest at =
    let found = listed (λ t. outcome_of tables (moves_of tables events) t (mind_in tables tries events t)) (length tables.trains) t o at in
    let x = item_there tables.trains t found.0 in
    let within : nat_lt t (length tables.trains) ≡ true = lt-ltb t (length tables.trains) found.0 in
    let mind : mind_in tables tries events t ≡ train_mind tries ((state tables tries events).minds t) = rw within refl in
    let fate : o.fate ≡ fate_by x.0 (train_mind tries ((state tables tries events).minds t)) =
    ap (λ (y : Outcome). y.fate) (sym found.1) ∙ ap (fate_of tables t) mind ∙ rw x.1 refl in
    let Ended : Fate → Type 0 = λ f. (f ≡ Arrived) ⊎ (f ≡ Spent) in
    subst Ended (sym fate)
    (ended_fate x.0 (train_mind tries ((state tables tries events).minds t)) (resting_mind tries x.0 ((state tables tries events).minds t) (rest t x.0 x.1)))
