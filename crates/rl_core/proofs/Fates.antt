-- The fate of a train by its own table, and the report of a run by the minds of its nodes.
use Rattle.std.proofs.Common.{◌≡◌, ◌==◌, ℕ, ◌+◌, ◌<◌, nat_lt, true, false, List, [], ◌∷◌, ◌++◌, map, length, slice_get, slice_index_or, Some, refl, sym, ap, ◌∙◌, arith}
use Rattle.std.specs.List.{range_with_len}
use Rattle.std.proofs.lemmas.Bool.{eq-eqb, ne_eqb}
use Rattle.std.proofs.lemmas.Bool.Decides.{nat_tests}
use Rattle.std.proofs.lemmas.List.{get_or_default}
use Rattle.std.proofs.lemmas.List.FromFn.{length-map-range_with_len, get_or-map-range_with_len, map-range_with_len_more, fill_by_all}
use Rattle.std.proofs.lemmas.Option.{slice_get-get_or, get_or_from_slice_get}
use Rattle.rl_base.specs.Layout.{node_count}
use Rattle.rl_model.specs.declared.moves.Move.{Move}
use Rattle.rl_model.specs.declared.report.Fate.TheVariants.{Arrived, Spent, Underway}
use Rattle.rl_model.specs.declared.report.Outcome.{Outcome}
use Rattle.rl_model.specs.declared.report.Report.{Report}
use Rattle.rl_record.specs.declared.event.Event.{Event}
use Rattle.rl_tables.specs.Starts.{layout_of}
use Rattle.rl_tables.specs.declared.table.Tables.{Tables}
use Rattle.rl_tables.specs.declared.table.TrainTable.{TrainTable}
use Rattle.rl_train.specs.declared.mind.TrainMind.{TrainMind}
use Rattle.rl_train.specs.Mind.{at_rest}
use Rattle.rl_steps.specs.declared.mind.Mind.{Mind}
use Rattle.rl_steps.specs.declared.mind.Mind.TheVariants.{Machine}
use Rattle.rl_steps.specs.State.{CoreState}
use Rattle.rl_steps.specs.Turn.{Drive}
use Rattle.rl_safety.specs.Moves.{moves_of}
use Rattle.rl_safety.specs.Reading.{train_mind}
use Rattle.rl_safety.specs.Reports.{fate_of, outcome_of, outcomes_of, mind_in, report_of}
use Rattle.rl_core.specs.Cores.{Core, LeadsTo}
use Rattle.rl_core.specs.Reports.{AreMindsAfter, outcomes_by}

module _ (tables : Tables) (t : ℕ) (x : TrainTable) (m : TrainMind) (there : slice_get tables.trains t ≡ Some x) where
  pub fate_underway : at_rest x m ≡ false → Underway ≡ fate_of tables t m
  fate_underway h = rw (there, h) refl

  pub fate_arrived : at_rest x m ≡ true → m.step ≡ length x.rows → Arrived ≡ fate_of tables t m
  fate_arrived h all = let test : (m.step == length x.rows) ≡ true = eq-eqb m.step (length x.rows) all in rw (there, h, test) refl

  pub fate_spent : at_rest x m ≡ true → (m.step ≡ length x.rows → ⊥) → Spent ≡ fate_of tables t m
  fate_spent h some = let test : (m.step == length x.rows) ≡ false = ne_eqb m.step (length x.rows) some in rw (there, h, test) refl

-- two lists over the first numbers with the same items
listed_same : {A : Type 0} (f g : ℕ → A) (n : ℕ) → ((k : ℕ) → k < n → f k ≡ g k) → map f (range_with_len 0 n) ≡ map g (range_with_len 0 n)
listed_same f g n same =
    fill_by_all g (map f (range_with_len 0 n)) n (f 0) (length-map-range_with_len f 0 n)
    (λ k there. get_or-map-range_with_len f 0 n k k (f 0) there (omega arith) ∙ same k there)

-- the minds in the tables of a core are those that its run leaves
pub minds_after : (drive : Drive) (core : Core) → LeadsTo drive core → AreMindsAfter core.line core.tries drive.events core.minds
minds_after drive core leads n mind at = ap (λ (c : CoreState). c.minds n) leads.state ∙ get_or_from_slice_get core.minds n mind (Machine record {}) at

-- one outcome more
pub outcomes_more : (tables : Tables) (tries : ℕ) (moves : List Move) (minds : List Mind) (t : ℕ) (any : Mind) (old new : List Outcome)
    (mind : TrainMind) (o : Outcome)
    → t < length minds → old ≡ outcomes_by tables tries moves minds t → new ≡ old ++ o ∷ [] → mind ≡ train_mind tries (slice_index_or minds t any)
    → o ≡ outcome_of tables moves t mind → new ≡ outcomes_by tables tries moves minds (t + 1)
outcomes_more tables tries moves minds t any old new mind o within before after mind_is o_is =
    let at : slice_index_or minds t any ≡ slice_index_or minds t (Machine record {}) = get_or_default minds t any (Machine record {}) within in
    let own : o ≡ outcome_of tables moves t (train_mind tries (slice_index_or minds t (Machine record {}))) =
    o_is ∙ ap (outcome_of tables moves t) (mind_is ∙ ap (train_mind tries) at) in
    after ∙ ap (λ os. os ++ o ∷ []) before ∙ ap (λ x. outcomes_by tables tries moves minds t ++ x ∷ []) own
    ∙ sym (map-range_with_len_more (λ k. outcome_of tables moves k (train_mind tries (slice_index_or minds k (Machine record {})))) 0 t t (omega arith))

-- the outcomes by the minds are those of the run
outcomes_are : (tables : Tables) (tries : ℕ) (events : List Event) (minds : List Mind) → length minds ≡ node_count (layout_of tables)
    → AreMindsAfter tables tries events minds → outcomes_by tables tries (moves_of tables events) minds (length tables.trains) ≡ outcomes_of tables tries events
outcomes_are tables tries events minds size are =
    listed_same (λ t. outcome_of tables (moves_of tables events) t (train_mind tries (slice_index_or minds t (Machine record {}))))
    (λ t. outcome_of tables (moves_of tables events) t (mind_in tables tries events t)) (length tables.trains)
    (λ t there. ap (outcome_of tables (moves_of tables events) t) (mind_is t there))
  where
    mind_is : (t : ℕ) → t < length tables.trains → train_mind tries (slice_index_or minds t (Machine record {})) ≡ mind_in tables tries events t
    mind_is t there =
        let within : t < length minds = omega arith in
        let test : nat_lt t (length tables.trains) ≡ true = grind (arith, nat_tests) in
        let at : slice_get minds t ≡ Some (slice_index_or minds t (Machine record {})) = slice_get-get_or minds t (Machine record {}) within in
        rw test (ap (train_mind tries) (sym (are t (slice_index_or minds t (Machine record {})) at)))

pub report_is : (tables : Tables) (tries : ℕ) (events : List Event) (moves : List Move) (minds : List Mind) (outcomes : List Outcome)
    → length minds ≡ node_count (layout_of tables) → moves ≡ moves_of tables events → AreMindsAfter tables tries events minds
    → outcomes ≡ outcomes_by tables tries moves minds (length tables.trains)
    → (let made : Report = record { tries = tries; moves = moves; outcomes = outcomes } in made) ≡ report_of tables tries events
report_is tables tries events moves minds outcomes size moves_are are outcomes_is =
    let make = λ (ms : List Move) (os : List Outcome). let made : Report = record { tries = tries; moves = ms; outcomes = os } in made in
    ap (λ os. make moves os) outcomes_is ∙ ap (λ ms. make ms (outcomes_by tables tries ms minds (length tables.trains))) moves_are
    ∙ ap (λ os. make (moves_of tables events) os) (outcomes_are tables tries events minds size are)
