-- A round leaves all nodes of the rails all nodes of the rails.
use Rattle.std.proofs.Common.{◌≡◌, ℕ, List, ◌++◌, length, take, sym, ap, ◌∙◌, subst, arith}
use Rattle.std.proofs.lemmas.List.{drop_all, take_all, append-nil}
use Rattle.rl_rule.specs.declared.rails.Rails.{Rails}
use Rattle.rl_runner.specs.Turns.{EachTurned}
use Rattle.rl_base.specs.Lending.{replaced}
use Rattle.rl_nodes.specs.Nodes.{Node, number, turns_of, IsHome, AreNodesOf, AreToppedUp}
use Rattle.rl_to_rest.specs.Going.{StillNodes}

-- what is proved of room that is taken, and of rounds
abbrev pub KeptWithRoom : Type 0
KeptWithRoom =
    (rails : Rails) (limit : ℕ) (old new : List Node) → length new ≡ length old → AreToppedUp old new → AreNodesOf rails limit old
    → AreNodesOf rails limit new

abbrev pub KeptByRounds : Type 0
KeptByRounds =
    (rails : Rails) (limit round : ℕ) (old new : List Node) → length new ≡ length old → EachTurned number turns_of IsHome round old new
    → AreNodesOf rails limit old → AreNodesOf rails limit new

pub still_after : (turns : ℕ) (old topped new : List Node) → KeptWithRoom → KeptByRounds → length topped ≡ length old → AreToppedUp old topped
    → length new ≡ length topped → EachTurned number turns_of IsHome turns topped new → StillNodes old new
still_after turns old topped new room rounds long each longer turned =
    record {
      all_here = longer ∙ long;
      nodes = λ rails limit were. rounds rails limit turns topped new longer turned (room rails limit old topped long each were);
    }

-- also where the round is given up
pub still_topped : (old topped : List Node) → KeptWithRoom → length topped ≡ length old → AreToppedUp old topped → StillNodes old topped
still_topped old topped room long each = record { all_here = long; nodes = λ rails limit were. room rails limit old topped long each were }

still_longer : (a b c : List Node) → StillNodes a b → StillNodes b c → StillNodes a c
still_longer a b c first then_on =
    record { all_here = then_on.all_here ∙ first.all_here; nodes = λ rails limit were. then_on.nodes rails limit (first.nodes rails limit were) }

-- as many items as there were are all items
replaced_by_all : (items new : List Node) → length new ≡ length items → replaced items new ≡ new
replaced_by_all items new same =
    ap (λ (xs : List Node). take (length items) (new ++ xs)) (drop_all (length new) items (omega (arith, same)))
    ∙ ap (take (length items)) (append-nil new)
    ∙ take_all (length items) new (omega (arith, same))

pub went_round : (first nodes lent new : List Node) → StillNodes first nodes → lent ≡ nodes → StillNodes lent new → StillNodes first (replaced nodes new)
went_round first nodes lent new so_far is on =
    let went : StillNodes nodes new = subst (λ (l : List Node). StillNodes l new) is on in
    subst (λ (l : List Node). StillNodes first l) (sym (replaced_by_all nodes new went.all_here)) (still_longer first nodes new so_far went)
