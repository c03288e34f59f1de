-- After rounds the nodes are still those of their rails, and so are their parts.
use Rattle.std.proofs.Common.{◌≡◌, ℕ, ◌<◌, true, List, length, slice_get, slice_index_or, Some, sym, ap, ◌∙◌, subst, arith}
use Rattle.std.proofs.lemmas.Option.{slice_get_within, get_or_from_slice_get, slice_get-get_or}
use Rattle.rl_tables.specs.declared.table.Tables.{Tables}
use Rattle.rl_steps.specs.declared.mind.Mind.{Mind}
use Rattle.rl_rule.specs.declared.views.Walk.{Walk}
use Rattle.rl_rule.specs.declared.rails.Rails.{Rails}
use Rattle.rl_rule.specs.Seats.{rails_line}
use Rattle.rl_runner.specs.Turns.{HasTurned, EachTurned}
use Rattle.rl_nodes.specs.declared.parts.Part.{Part}
use Rattle.rl_nodes.specs.Nodes.{Node, number, turns_of, rests, is_at_rest, IsHome, IsNodeOf, AreNodesOf, IsToppedUp, AreToppedUp}
use Rattle.rl_nodes.specs.Parts.{IsPartOf, AreParts}
use Rattle.rl_nodes.specs.Parting.{IsPartOfNode, ArePartsOf}
use Rattle.rl_nodes.proofs.Resting.{item_there}

stays : (rails : Rails) (limit round n : ℕ) (old new : Node) → HasTurned number turns_of IsHome round old new → IsNodeOf rails limit n old
    → IsNodeOf rails limit n new
stays rails limit round n old new turned is =
    record {
      rails_are = turned.at_home.rails ∙ is.rails_are;
      line_is = turned.at_home.line ∙ is.line_is;
      tries_are = turned.at_home.tries ∙ is.tries_are;
      limit_is = turned.at_home.limit ∙ is.limit_is;
      number_is = turned.number_is ∙ is.number_is;
    }

pub nodes_stay : (rails : Rails) (limit round : ℕ) (old new : List Node) → length new ≡ length old → EachTurned number turns_of IsHome round old new
    → AreNodesOf rails limit old → AreNodesOf rails limit new
nodes_stay rails limit round old new same turned are =
    record {
      all_handed = are.all_handed;
      none_taken = are.none_taken;
      all_here = same ∙ are.all_here;
      each = λ i node at.
          let below : i < length old = omega (arith, slice_get_within new i node at, same) in
          let before = slice_index_or old i node in
          stays rails limit round i before node
          (subst (λ (x : Node). HasTurned number turns_of IsHome round before x) (get_or_from_slice_get new i node node at) (turned i node below))
          (are.each i before (slice_get-get_or old i node below));
    }

-- the parts of the nodes of some rails are parts of these rails
part_of_rails : (rails : Rails) (limit n : ℕ) (node : Node) (part : Part) → IsNodeOf rails limit n node → IsPartOfNode node part → IsPartOf rails n part
part_of_rails rails limit n node part is of =
    record {
      own = of.own ∙ is.rails_are;
      line = of.line ∙ is.line_is;
      number = ap (λ (w : Walk). w.node.0) of.walk ∙ is.number_is;
    }

pub parts_of_rails : (rails : Rails) (limit : ℕ) (nodes : List Node) (parts : List Part) → AreNodesOf rails limit nodes → ArePartsOf nodes parts
    → AreParts rails parts
parts_of_rails rails limit nodes parts are of =
    record {
      all_handed = are.all_handed;
      none_taken = are.none_taken;
      all_here = of.all_here ∙ are.all_here;
      each = λ i part at.
          let below : i < length nodes = omega (arith, slice_get_within parts i part at, of.all_here) in
          let node = item_there nodes i below in
          part_of_rails rails limit i node.0 part (are.each i node.0 node.1) (of.each i node.0 part node.1 at);
    }

pub part_at_rest : (rails : Rails) (limit i : ℕ) (nodes : List Node) (parts : List Part) (node : Node) (part : Part) → AreNodesOf rails limit nodes
    → ArePartsOf nodes parts → slice_get nodes i ≡ Some node → slice_get parts i ≡ Some part → rests node ≡ true
    → is_at_rest (rails_line rails) i part.mind ≡ true
part_at_rest rails limit i nodes parts node part are of there at rest =
    let is = are.each i node there in
    let mine = of.each i node part there at in
    ap (λ (t : Tables). is_at_rest t i part.mind) (sym is.line_is)
    ∙ ap (λ (k : ℕ). is_at_rest node.line k part.mind) (sym is.number_is)
    ∙ ap (λ (m : Mind). is_at_rest node.line (number node) m) mine.mind
    ∙ rest

pub topped_up_stay : (rails : Rails) (limit : ℕ) (old new : List Node) → length new ≡ length old → AreToppedUp old new → AreNodesOf rails limit old
    → AreNodesOf rails limit new
topped_up_stay rails limit old new same topped are =
    record {
      all_handed = are.all_handed;
      none_taken = are.none_taken;
      all_here = same ∙ are.all_here;
      each = λ i node at.
          let below : i < length old = omega (arith, slice_get_within new i node at, same) in
          let before = slice_index_or old i node in
          one_topped rails limit i before node
          (subst (λ (x : Node). IsToppedUp before x) (get_or_from_slice_get new i node node at) (topped i node))
          (are.each i before (slice_get-get_or old i node below));
    }
  where
    one_topped : (rails : Rails) (limit n : ℕ) (old new : Node) → IsToppedUp old new → IsNodeOf rails limit n old → IsNodeOf rails limit n new
    one_topped rails limit n old new is of =
        rw is record { rails_are = of.rails_are; line_is = of.line_is; tries_are = of.tries_are; limit_is = of.limit_is; number_is = of.number_is }
