-- A train that goes along a plan keeps the rules on routes.
use Rattle.std.proofs.Common.{◌≡◌, ℕ, ◌%◌, ◌<◌, ◌≤◌, true, false, cond, not, eqb, ltb, ◌&&◌, List, length, slice_get, Some, sym, ap, subst, ◌∙◌, arith}
use Rattle.std.proofs.lemmas.Bool.{eqb-true, ltb-true, ne_eqb, le-ltb}
use Rattle.rl_base.specs.declared.limits.TheConstants.{MAX_ROUTE, MAX_STEPS}
use Rattle.rl_base.specs.declared.draft.Draft.{Draft}
use Rattle.rl_base.specs.declared.draft.DraftTrain.{DraftTrain}
use Rattle.rl_model.specs.Network.{IsNetwork}
use Rattle.rl_drafts.specs.Drafts.{box_names, network_of}
use Rattle.rl_drafts.specs.Refusals.{fits_at, is_among, on_name}
use Rattle.rl_drafts.proofs.Accepted.{IsSound}
use Rattle.rl_plan.specs.declared.plan.PlanStep.{PlanStep}
use Rattle.rl_plan.specs.Walks.{IsWalk}
use Rattle.rl_plan.specs.Routes.{route_names, with_trains, KeepsRules}
use Rattle.rl_plan.proofs.Routes.{route_length, names_in_turn, boxes_fit, fails_on, not_so}

module _ (d : Draft) (to s : ℕ) (steps : List PlanStep) (sound : IsSound d) (network : IsNetwork (network_of d)) (there : s < length (network_of d).segments)
    (walk : IsWalk (network_of d) to s steps) (few : length steps ≤ MAX_STEPS)
  where
    short_route : (t : DraftTrain) → t.route ≡ route_names (network_of d) s steps → ltb MAX_ROUTE (length t.route) ≡ false
    short_route t is =
        let len = ap (λ (xs : List (List ℕ)). length xs) is ∙ route_length d s steps in
        le-ltb MAX_ROUTE (length t.route) (omega (arith, len, few))

    odd_route : (t : DraftTrain) → t.route ≡ route_names (network_of d) s steps → eqb (length t.route % 2) 0 ≡ false
    odd_route t is =
        let len = ap (λ (xs : List (List ℕ)). length xs) is ∙ route_length d s steps in
        ne_eqb (length t.route % 2) 0 (λ even. omega (arith, len, even))

    names_of_route : (t : DraftTrain) (j : ℕ) → t.route ≡ route_names (network_of d) s steps
        → on_name t.route j (λ name. not (is_among (cond (eqb (j % 2) 0) d.segments (box_names d)) name)) ≡ false
    names_of_route t j is =
        fails_on (λ (name : List ℕ). not (is_among (cond (eqb (j % 2) 0) d.segments (box_names d)) name)) (slice_get t.route j)
        (λ name at. ap not
        (names_in_turn d to s steps network there walk j name (subst (λ (xs : List (List ℕ)). slice_get xs j ≡ Some name) is at)))

    route_fits : (t : DraftTrain) (j : ℕ) → t.route ≡ route_names (network_of d) s steps
        → (eqb (j % 2) 1 && ltb j (length t.route) && not (fits_at d t.route j)) ≡ false
    route_fits t j is =
        not_so (eqb (j % 2) 1) (ltb j (length t.route)) (fits_at d t.route j)
        (λ odd within. subst (λ (xs : List (List ℕ)). fits_at d xs j ≡ true) (sym is)
        (boxes_fit d to s steps sound network there walk j (eqb-true (j % 2) 1 odd)
        (subst (λ (xs : List (List ℕ)). j < length xs) is (ltb-true j (length t.route) within))))

    pub rules_kept : (i : ℕ) (trains : List DraftTrain)
        → ((t : DraftTrain) → slice_get trains i ≡ Some t → t.route ≡ route_names (network_of d) s steps) → KeepsRules (with_trains d trains) i
    rules_kept i trains along =
        record {
          short = fails_on (λ (t : DraftTrain). ltb MAX_ROUTE (length t.route)) (slice_get trains i) (λ t at. short_route t (along t at));
          shape = fails_on (λ (t : DraftTrain). eqb (length t.route % 2) 0) (slice_get trains i) (λ t at. odd_route t (along t at));
          names = λ j. fails_on
              (λ (t : DraftTrain). on_name t.route j (λ name. not (is_among (cond (eqb (j % 2) 0) d.segments (box_names d)) name)))
              (slice_get trains i) (λ t at. names_of_route t j (along t at));
          fits = λ j. fails_on (λ (t : DraftTrain). eqb (j % 2) 1 && ltb j (length t.route) && not (fits_at d t.route j)) (slice_get trains i)
              (λ t at. route_fits t j (along t at));
        }
