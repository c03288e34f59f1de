-- Room that is granted, and the turns that follow it.
use Rattle.std.proofs.Common.{◌≡◌, ℕ, ◌*◌, ◌≤◌, List, length, slice_index_or, sym, ap, ◌∙◌, arith}
use Rattle.rl_base.specs.declared.limits.TheConstants.{MAX_TRAINS, MAX_TRIES, MAX_EVENTS, MAX_ATTEMPT_NODE_EVENTS}
use Rattle.rl_base.specs.Tries.{AreFewTries}
use Rattle.rl_rule.specs.declared.rails.Rails.{Rails}
use Rattle.rl_rule.specs.Seats.{rails_line, rails_tries}
use Rattle.rl_runner.specs.Turns.{raised, HasTurned, EachTurned}
use Rattle.rl_tables.specs.declared.table.Tables.{Tables}
use Rattle.rl_tables.specs.Kept.{IsLine}
use Rattle.rl_nodes.specs.Finished.{most_attempts}
use Rattle.rl_nodes.specs.Nodes.{Node, number, turns_of, IsHome, AreNodesOf, IsToppedUp, AreToppedUp}
use Rattle.rl_to_rest.specs.Rounds.{HaveRecords}
use Rattle.rl_to_rest.proofs.RunEvents.{run_attempts}

topped_on : (a b c : Node) → IsToppedUp a b → IsToppedUp b c → IsToppedUp a c
topped_on a b c first on = on ∙ ap (λ (x : Node). record x { log = record x.log { spare = c.log.spare } }) first

pub all_topped_on : (a b c : List Node) → AreToppedUp a b → AreToppedUp b c → AreToppedUp a c
all_topped_on a b c first on i d = topped_on (slice_index_or a i d) (slice_index_or b i d) (slice_index_or c i d) (first i d) (on i d)

-- turns with room that was taken before are turns
turned_from : (n : ℕ) (a b c : Node) → IsToppedUp a b → HasTurned number turns_of IsHome n b c → HasTurned number turns_of IsHome n a c
turned_from n a b c topped turned =
    record {
      number_is = turned.number_is ∙ ap number topped;
      at_home = record {
        rails = turned.at_home.rails ∙ ap (λ (x : Node). x.rails) topped;
        line = turned.at_home.line ∙ ap (λ (x : Node). x.line) topped;
        tries = turned.at_home.tries ∙ ap (λ (x : Node). x.tries) topped;
        limit = turned.at_home.limit ∙ ap (λ (x : Node). x.log.limit) topped;
      };
      turns_are = turned.turns_are ∙ ap (λ (x : Node). raised (turns_of x) n) topped;
    }

pub all_turned_from : (n : ℕ) (a b c : List Node) → length b ≡ length a → AreToppedUp a b → EachTurned number turns_of IsHome n b c
    → EachTurned number turns_of IsHome n a c
all_turned_from n a b c long topped turned i d within =
    turned_from n (slice_index_or a i d) (slice_index_or b i d) (slice_index_or c i d) (topped i d) (turned i d (omega arith))

-- a record of the greatest length has room for all that a node may do
pub all_records : (rails : Rails) (tables : Tables) (tries : ℕ) → tables ≡ rails_line rails → tries ≡ rails_tries rails → IsLine tables → AreFewTries tries
    → MAX_ATTEMPT_NODE_EVENTS * most_attempts rails ≤ MAX_EVENTS
all_records rails tables tries line tries_are kept few =
    let most : length tables.trains * tries ≤ MAX_TRAINS * MAX_TRIES = run_attempts tables tries kept few in
    let same : most_attempts rails ≡ length tables.trains * tries =
    ap (λ (t : Tables). length t.trains * rails_tries rails) (sym line) ∙ ap (λ (k : ℕ). length tables.trains * k) (sym tries_are) in
    omega arith

pub have_records : (rails : Rails) (tables : Tables) (tries limit : ℕ) (nodes : List Node) → tables ≡ rails_line rails → tries ≡ rails_tries rails
    → IsLine tables → AreFewTries tries → AreNodesOf rails limit nodes → MAX_EVENTS ≤ limit → HaveRecords nodes
have_records rails tables tries limit nodes line tries_are kept few are long =
    record { rails = rails; limit = limit; are = are; room = omega (arith, all_records rails tables tries line tries_are kept few) }
