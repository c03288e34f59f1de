-- Lists that grow side by side: seats and nodes, nodes and parts.
use Rattle.std.proofs.Common.{◌≡◌, ℕ, zero, suc, ◌+◌, ◌<◌, ◌⊎◌, inl, inr, List, [], ◌∷◌, ◌++◌}
use Rattle.std.proofs.Common.{length, slice_get, Some, Result, Ok, Err, IfOk, refl, sym, ap, ◌∙◌, subst, arith, length-append}
use Rattle.std.proofs.lemmas.Option.{slice_get_within}
use Rattle.rl_base.specs.Layout.{node_count}
use Rattle.rl_tables.specs.Starts.{layout_of}
use Rattle.rl_rule.specs.declared.views.Walk.{Walk}
use Rattle.rl_rule.specs.declared.seats.NodeSeat.{NodeSeat}
use Rattle.rl_rule.specs.declared.rails.Rails.{Rails}
use Rattle.rl_rule.specs.Seats.{rails_line, rails_tries, walk_of, IsSameRails}
use Rattle.rl_rule.specs.Views.{start_walk}
use Rattle.rl_tables.specs.declared.table.Tables.{Tables}
use Rattle.rl_nodes.specs.declared.parts.Part.{Part}
use Rattle.rl_nodes.specs.Nodes.{Node, AreNodesOf}
use Rattle.rl_nodes.specs.Laying.{IsStartSeat, AreSeatsOf, start_node, AreStartNodes, AreLaid, AreFirstSeats}
use Rattle.rl_nodes.specs.Parting.{IsPartOfNode, ArePartsOf}
use Rattle.rl_nodes.proofs.Resting.{item_there}

-- an item of a list that grew by one stood there before, or is the last one
grown : {A : Type 0} (xs : List A) (x : A) (i : ℕ) (y : A) → slice_get (xs ++ x ∷ []) i ≡ Some y → (slice_get xs i ≡ Some y) ⊎ ((i ≡ length xs) × (x ≡ y))
grown [] x zero y is = inr (refl, cc)
grown [] x (suc i) y is = absurd (cc)
grown (z ∷ zs) x zero y is = inl is
grown (z ∷ zs) x (suc i) y is = elim (grown zs x i y is) [ inl old ↦ inl old | inr last ↦ inr (ap suc last.0, last.1) ]

before : {A : Type 0} (xs ys : List A) (i : ℕ) (y : A) → slice_get xs i ≡ Some y → slice_get (xs ++ ys) i ≡ Some y
before [] ys i y is = absurd (cc)
before (x ∷ xs) ys zero y is = is
before (x ∷ xs) ys (suc i) y is = before xs ys i y is

behind : {A : Type 0} (xs : List A) (y : A) (ys : List A) → slice_get (xs ++ y ∷ ys) (length xs) ≡ Some y
behind [] y ys = refl
behind (x ∷ xs) y ys = behind xs y ys

longer : {A : Type 0} (xs : List A) (x : A) → length (xs ++ x ∷ []) ≡ length xs + 1
longer xs x = length-append xs (x ∷ [])

-- nodes and their parts
pub parts_more : (nodes : List Node) (parts : List Part) (node : Node) (part : Part) → ArePartsOf nodes parts → IsPartOfNode node part
    → ArePartsOf (nodes ++ node ∷ []) (parts ++ part ∷ [])
parts_more nodes parts node part are is =
    record {
      all_here = longer parts part ∙ ap (λ (k : ℕ). k + 1) are.all_here ∙ sym (longer nodes node);
      each = λ i n p there at. one i n p (grown nodes node i n there) (grown parts part i p at);
    }
  where
    one : (i : ℕ) (n : Node) (p : Part) → (slice_get nodes i ≡ Some n) ⊎ ((i ≡ length nodes) × (node ≡ n))
        → (slice_get parts i ≡ Some p) ⊎ ((i ≡ length parts) × (part ≡ p)) → IsPartOfNode n p
    one i n p (inl there) (inl at) = are.each i n p there at
    one i n p (inl there) (inr at) = absurd (omega (arith, slice_get_within nodes i n there, at.0, are.all_here))
    one i n p (inr there) (inl at) = absurd (omega (arith, slice_get_within parts i p at, there.0, are.all_here))
    one i n p (inr there) (inr at) = subst (λ (x : Node). IsPartOfNode x p) there.1 (subst (λ (y : Part). IsPartOfNode node y) at.1 is)

-- seats and the nodes that are laid at them
pub laid_more : (rails : Rails) (limit : ℕ) (seats : List NodeSeat) (nodes : List Node) (seat : NodeSeat) (node : Node) → AreLaid rails limit seats nodes
    → node ≡ start_node rails limit (walk_of seat).node.0
    → AreLaid rails limit (seats ++ seat ∷ []) (nodes ++ node ∷ [])
laid_more rails limit seats nodes seat node laid is =
    record {
      all_here = longer nodes node ∙ ap (λ (k : ℕ). k + 1) laid.all_here ∙ sym (longer seats seat);
      each = λ i s there. one i s (grown seats seat i s there);
    }
  where
    one : (i : ℕ) (s : NodeSeat) → (slice_get seats i ≡ Some s) ⊎ ((i ≡ length seats) × (seat ≡ s))
        → slice_get (nodes ++ node ∷ []) i ≡ Some (start_node rails limit (walk_of s).node.0)
    one i s (inl there) = before nodes (node ∷ []) i _ (laid.each i s there)
    one i s (inr there) =
        ap (slice_get (nodes ++ node ∷ [])) (there.0 ∙ sym laid.all_here)
        ∙ behind nodes node []
        ∙ ap Some is
        ∙ ap (λ (x : NodeSeat). Some (start_node rails limit (walk_of x).node.0)) there.1

-- the seat that comes next is that of the next node
pub record IsNext (rails : Rails) (seat : NodeSeat) : Type 0 where
  pub there : (walk_of seat).node.0 < node_count (layout_of (rails_line rails))
  pub starts : IsStartSeat rails (walk_of seat).node.0 seat

pub next_seat : (rails : Rails) (seats so_far rest : List NodeSeat) (seat : NodeSeat) → AreSeatsOf rails seats → so_far ++ seat ∷ rest ≡ seats
    → IsNext rails seat
next_seat rails seats so_far rest seat are all =
    let i = length so_far in
    let at : slice_get seats i ≡ Some seat = subst (λ (xs : List NodeSeat). slice_get xs i ≡ Some seat) all (behind so_far seat rest) in
    let starts = are.each i seat at in
    let number : (walk_of seat).node.0 ≡ i = ap (λ (w : Walk). w.node.0) starts.walk in
    record {
      there = omega (arith, number, slice_get_within seats i seat at, are.all_here, are.all_handed);
      starts = subst (λ (k : ℕ). IsStartSeat rails k seat) (sym number) starts;
    }

pub start_nodes : (rails : Rails) (limit : ℕ) (seats : List NodeSeat) (nodes : List Node) → AreSeatsOf rails seats → AreLaid rails limit seats nodes
    → AreStartNodes rails limit nodes
start_nodes rails limit seats nodes are laid i node at =
    let seat = item_there seats i (omega (arith, slice_get_within nodes i node at, laid.all_here)) in
    let number : (walk_of seat.0).node.0 ≡ i = ap (λ (w : Walk). w.node.0) (are.each i seat.0 seat.1).walk in
    let here : slice_get nodes i ≡ Some (start_node rails limit i) = laid.each i seat.0 seat.1 ∙ ap (λ (k : ℕ). Some (start_node rails limit k)) number in
    let both : Some node ≡ Some (start_node rails limit i) = sym at ∙ here in
    cc

pub all_nodes : (rails : Rails) (limit : ℕ) (seats : List NodeSeat) (nodes : List Node) → AreSeatsOf rails seats → AreLaid rails limit seats nodes
    → AreNodesOf rails limit nodes
all_nodes rails limit seats nodes are laid =
    record {
      all_handed = are.all_handed;
      none_taken = are.none_taken;
      all_here = laid.all_here ∙ are.all_here;
      each = λ i node at. rw (start_nodes rails limit seats nodes are laid i node at) record {
        rails_are = refl;
        line_is = refl;
        tries_are = refl;
        limit_is =
            refl;
        number_is = refl;
      };
    }

pub none_laid : (rails : Rails) (limit : ℕ) → AreLaid rails limit [] []
none_laid rails limit = record { all_here = refl; each = λ i seat at. absurd (cc) }

-- what follows of a good result
pub ok_on : {T E : Type 0} (P Q : T → Type 0) (result : Result T E) → ((x : T) → P x → Q x) → IfOk result P → IfOk result Q
ok_on P Q (Ok x) follows is = follows x is
ok_on P Q (Err e) follows is = tt

-- the seat of the next node, after those of the first ones
pub seats_more : (rails now : Rails) (count : ℕ) (seats : List NodeSeat) (seat : NodeSeat) → IsSameRails rails now → AreFirstSeats rails count seats
    → IsStartSeat now count seat → AreFirstSeats rails (count + 1) (seats ++ seat ∷ [])
seats_more rails now count seats seat same are is =
    record {
      all_here = longer seats seat ∙ ap (λ (k : ℕ). k + 1) are.all_here;
      each = λ i s there. one i s (grown seats seat i s there);
    }
  where
    here : IsStartSeat rails count seat
    here = record {
      own = is.own ∙ same.id;
      line = is.line ∙ same.line;
      walk = is.walk ∙ ap (λ (t : Tables). start_walk t (rails_tries now) count) same.line ∙ ap (λ (k : ℕ). start_walk (rails_line rails) k count) same.tries;
    }

    one : (i : ℕ) (s : NodeSeat) → (slice_get seats i ≡ Some s) ⊎ ((i ≡ length seats) × (seat ≡ s)) → IsStartSeat rails i s
    one i s (inl there) = are.each i s there
    one i s (inr there) = subst (λ (x : NodeSeat). IsStartSeat rails i x) there.1
        (subst (λ (k : ℕ). IsStartSeat rails k seat) (sym (there.0 ∙ are.all_here)) here)
