-- The histories of a list with one more event, and how many events there are in all.
use Rattle.std.proofs.Common.{◌≡◌, ℕ, ◌*◌, ◌≤◌, List, [], ◌∷◌, length, Some, refl, ap}
use Rattle.std.proofs.Common.{eq-eqb, arith}
use Rattle.std.proofs.lemmas.Bool.{ne_eqb}
use Rattle.rl_base.specs.declared.limits.TheConstants.{MAX_EVENTS}
use Rattle.rl_record.specs.declared.event.Event.{Event}
use Rattle.rl_record.specs.Merge.{history}
use Rattle.rl_rule.specs.Loads.{last_on, most_nodes, most_events}
use Rattle.rl_rule.specs.Histories.{sum_below}
use Rattle.rl_rule.proofs.Lists.{in_buckets, sum_most}

pub history_own : (n : ℕ) (e : Event) (log : List Event) → e.node.0 ≡ n → history n (e ∷ log) ≡ e ∷ history n log
history_own n e log same = rw (eq-eqb e.node.0 n same) refl

pub history_other : (n : ℕ) (e : Event) (log : List Event) → (e.node.0 ≡ n → ⊥) → history n (e ∷ log) ≡ history n log
history_other n e log other = rw (ne_eqb e.node.0 n other) refl

pub last_here : (w : ℕ) (e : Event) (log : List Event) → e.word.0 ≡ w → last_on w (e ∷ log) ≡ Some e
last_here w e log same = rw (eq-eqb e.word.0 w same) refl

pub last_there : (w : ℕ) (e : Event) (log : List Event) → (e.word.0 ≡ w → ⊥) → last_on w (e ∷ log) ≡ last_on w log
last_there w e log other = rw (ne_eqb e.word.0 w other) refl

no_items : {A : Type 0} (xs : List A) → xs ≡ [] → length xs ≡ 0
no_items xs e = ap length e

-- where only the first nodes have events, and none has too many, there are not too many in all
pub few_events : (k : ℕ) (log : List Event) → k ≤ most_nodes → ((n : ℕ) → k ≤ n → history n log ≡ []) → ((n : ℕ) → length (history n log) ≤ MAX_EVENTS) →
    length log ≤ most_events
few_events k log few none short =
    let all : sum_below k (λ n. length (history n log)) ≡ length log =
    in_buckets (λ (e : Event). e.node.0) k log (λ n past. no_items (history n log) (none n past)) in
    let most : sum_below k (λ n. length (history n log)) ≤ k * MAX_EVENTS = sum_most k MAX_EVENTS (λ n. length (history n log)) short in
    omega arith
