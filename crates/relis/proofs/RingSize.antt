-- How many nodes the network of a ring has, and that the rounds that are driven on it have not too many turns.
use Rattle.std.proofs.Common.{◌≡◌, ◌*◌, ◌+◌, ◌<◌, ◌≤◌, ◌++◌, ℕ, zero, suc, List, [], ◌∷◌, length, refl, subst, sym, arith, map, length-append, ◌∙◌}
use Rattle.std.proofs.lemmas.List.{length-map}
use Rattle.rl_base.specs.declared.limits.TheConstants.{MAX_MAKE, MAX_TURNS}
use Rattle.rl_base.specs.declared.draft.DraftBox.{DraftBox}
use Rattle.rl_base.specs.declared.draft.DraftTrain.{DraftTrain}
use Rattle.rl_model.specs.declared.network.NetworkPlan.{NetworkPlan}
use Rattle.rl_drafts.specs.Drafts.{network_of, box_of, train_of as network_train}
use Rattle.rl_make.specs.Ring.{ring, each, boxes_of, train_of}
use Rattle.rl_schedule.specs.Readings.{nodes_of}
use Rattle.relis.specs.declared.made.TheConstants.{MADE_ROUNDS}

boxes_count : (n k : ℕ) → length (each (boxes_of n) k) ≡ 3 * k
boxes_count n zero = refl
boxes_count n (suc k) =
    let rest : length (each (boxes_of n) k) ≡ 3 * k = boxes_count n k in
    let step : length (each (boxes_of n) k ++ boxes_of n k) ≡ length (each (boxes_of n) k) + 3 = length-append (each (boxes_of n) k) (boxes_of n k) in
    omega arith

abbrev trains_of : ℕ → ℕ → List DraftTrain
trains_of n i = train_of n i ∷ []

trains_count : (n k : ℕ) → length (each (trains_of n) k) ≡ k
trains_count n zero = refl
trains_count n (suc k) =
    let rest : length (each (trains_of n) k) ≡ k = trains_count n k in
    let step : length (each (trains_of n) k ++ trains_of n k) ≡ length (each (trains_of n) k) + 1 = length-append (each (trains_of n) k) (trains_of n k) in
    omega arith

ring_nodes : (n : ℕ) → nodes_of (network_of (ring n)) ≡ 8 * n
ring_nodes n =
    let boxes : length (network_of (ring n)).boxes ≡ 3 * n = length-map (each (boxes_of n) n) (box_of (ring n)) ∙ boxes_count n n in
    let trains : length (network_of (ring n)).trains ≡ n = length-map (each (trains_of n) n) (network_train (ring n)) ∙ trains_count n n in
    omega arith

-- of as many stations as may be asked for
pub ring_fits : (n : ℕ) (net : NetworkPlan) → net ≡ network_of (ring n) → n ≤ MAX_MAKE → MAX_TURNS < MADE_ROUNDS * nodes_of net → ⊥
ring_fits n net is few many =
    let nodes : nodes_of net ≡ 8 * n = subst (λ (x : NetworkPlan). nodes_of x ≡ 8 * n) (sym is) (ring_nodes n) in
    omega arith
