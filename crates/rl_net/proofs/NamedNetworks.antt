-- The network of a draft has the names of the draft.
use Rattle.std.proofs.Common.{◌≡◌, List, [], ◌∷◌, map, refl, sym, ap₂, ◌∙◌}
use Rattle.rl_base.specs.declared.draft.DraftBox.{DraftBox}
use Rattle.rl_base.specs.declared.draft.DraftTrain.{DraftTrain}
use Rattle.rl_base.specs.declared.draft.Draft.{Draft}
use Rattle.rl_model.specs.declared.network.Segment.{Segment}
use Rattle.rl_model.specs.declared.network.SwitchBox.{SwitchBox}
use Rattle.rl_model.specs.declared.network.Train.{Train}
use Rattle.rl_model.specs.Network.{IsNetwork}
use Rattle.rl_drafts.specs.Drafts.{segment_of, box_of, train_of, network_of}
use Rattle.rl_net.specs.declared.named_draft.NameTables.{NameTables}
use Rattle.rl_net.specs.NameTables.{AreTablesOf}
use Rattle.rl_net.specs.NamedNetwork.{IsNamed}

-- what is read from things that are made from others
read_made : {A B C : Type 0} (make : A → B) (read : B → C) (own : A → C) → ((x : A) → read (make x) ≡ own x) → (xs : List A)
    → map own xs ≡ map read (map make xs)
read_made make read own same [] = refl
read_made make read own same (x ∷ xs) = ap₂ (λ y ys. y ∷ ys) (sym (same x)) (read_made make read own same xs)

-- what is read may be what they are made from
read_back : {A B : Type 0} (make : A → B) (read : B → A) → ((x : A) → read (make x) ≡ x) → (xs : List A) → xs ≡ map read (map make xs)
read_back make read same [] = refl
read_back make read same (x ∷ xs) = ap₂ (λ y ys. y ∷ ys) (sym (same x)) (read_back make read same xs)

pub named_network : (d : Draft) (names : NameTables) → IsNetwork (network_of d) → AreTablesOf d names → IsNamed (network_of d) names
named_network d names network tables =
    record {
      network = network;
      segments = tables.segments ∙ read_back (segment_of d) (λ (g : Segment). g.name) (λ n. refl) d.segments;
      boxes = tables.boxes ∙ read_made (box_of d) (λ (x : SwitchBox). x.name) (λ (x : DraftBox). x.name) (λ x. refl) d.boxes;
      trains = tables.trains ∙ read_made (train_of d) (λ (r : Train). r.name) (λ (t : DraftTrain). t.name) (λ t. refl) d.trains;
    }
