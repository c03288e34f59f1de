-- The network of a draft: names become numbers by their places.
use Rattle.std.specs.Prelude.{ℕ, suc, List, [], ◌∷◌, ◌++◌, map, drop, Option, Some, None, if◌then◌else◌, option_map, unwrap_or, slice_index_or, bytes_eq}
use Rattle.rl_base.specs.declared.ids.SegId.{SegId}
use Rattle.rl_base.specs.declared.ids.BoxId.{BoxId}
use Rattle.rl_base.specs.declared.kind.Side.TheVariants.{Left}
use Rattle.rl_base.specs.declared.draft.DraftBox.{DraftBox}
use Rattle.rl_base.specs.declared.draft.DraftTrain.{DraftTrain}
use Rattle.rl_base.specs.declared.draft.Draft.{Draft}
use Rattle.rl_model.specs.declared.network.SegmentEnd.{SegmentEnd}
use Rattle.rl_model.specs.declared.network.Segment.{Segment}
use Rattle.rl_model.specs.declared.network.SwitchBox.{SwitchBox}
use Rattle.rl_model.specs.declared.network.Train.{Train}
use Rattle.rl_model.specs.declared.network.NetworkPlan.{NetworkPlan}

-- the place of the first of these names that is the name
abbrev pub number_in : List (List ℕ) → List ℕ → Option ℕ
number_in [] name = None
number_in (n ∷ names) name = if bytes_eq n name then Some 0 else option_map suc (number_in names name)

abbrev pub box_names : Draft → List (List ℕ)
box_names d = map (λ (x : DraftBox). x.name) d.boxes

abbrev pub train_names : Draft → List (List ℕ)
train_names d = map (λ (t : DraftTrain). t.name) d.trains

-- the numbers of names; a name that isn't there counts as 0
abbrev pub segment_number : Draft → List ℕ → SegId
segment_number d name = record { 0 = unwrap_or (number_in d.segments name) 0 }

abbrev pub box_number : Draft → List ℕ → BoxId
box_number d name = record { 0 = unwrap_or (number_in (box_names d) name) 0 }

-- the names at the even places
abbrev pub every_other : List (List ℕ) → List (List ℕ)
every_other [] = []
every_other (x ∷ []) = x ∷ []
every_other (x ∷ y ∷ rest) = x ∷ every_other rest

abbrev pub end_at : ℕ → ℕ → SegmentEnd
end_at b i = record { at = record { 0 = b }; arm = record { 0 = i } }

-- the arms of box b, from number i on, that name the segment
abbrev pub ends_in_box : ℕ → ℕ → List (List ℕ) → List ℕ → List SegmentEnd
ends_in_box b i [] name = []
ends_in_box b i (arm ∷ arms) name =
    if bytes_eq arm name then end_at b i ∷ ends_in_box b (suc i) arms name else ends_in_box b (suc i) arms name

-- the arms of the boxes, from number b on, that name the segment
abbrev pub ends_from : ℕ → List DraftBox → List ℕ → List SegmentEnd
ends_from b [] name = []
ends_from b (x ∷ xs) name = ends_in_box b 0 x.arms name ++ ends_from (suc b) xs name

-- the arms that name the segment, in the order of boxes and arms
abbrev pub ends_of : Draft → List ℕ → List SegmentEnd
ends_of d name = ends_from 0 d.boxes name

abbrev pub segment_of : Draft → List ℕ → Segment
segment_of d name =
    record {
      name = name;
      low = slice_index_or (ends_of d name) 0 (end_at 0 0);
      high = slice_index_or (ends_of d name) 1 (end_at 0 0);
    }

abbrev pub box_of : Draft → DraftBox → SwitchBox
box_of d x =
    record { name = x.name; kind = x.kind; side = unwrap_or x.at Left; arms = map (segment_number d) x.arms }

abbrev pub train_of : Draft → DraftTrain → Train
train_of d t =
    record {
      name = t.name;
      segments = map (segment_number d) (every_other t.route);
      boxes = map (box_number d) (every_other (drop 1 t.route));
    }

-- the network of a draft, which is a network where the draft is accepted
abbrev pub network_of : Draft → NetworkPlan
network_of d =
    record {
      segments = map (segment_of d) d.segments;
      boxes = map (box_of d) d.boxes;
      trains = map (train_of d) d.trains;
    }
