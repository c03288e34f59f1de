-- Where a text of a draft should be a name and isn't, in the order of places.
use Rattle.std.specs.Prelude.{ℕ, not, List, [], ◌∷◌, ◌++◌}
use Rattle.rl_base.specs.Name.{is_name}
use Rattle.rl_base.specs.declared.draft.Draft.{Draft}
use Rattle.rl_base.specs.declared.draft.DraftBox.{DraftBox}
use Rattle.rl_base.specs.declared.draft.DraftTrain.{DraftTrain}
use Rattle.rl_base.specs.declared.place.Place.{Place}
use Rattle.rl_base.specs.declared.place.Place.TheVariants.{BoxName, TrainName}
use Rattle.rl_syntax.specs.declared.names.NameList.{NameList}
use Rattle.rl_syntax.specs.declared.names.NameList.TheVariants.{Segments, Arms, Route}
use Rattle.rl_syntax.specs.Condition.{Condition, of_list}
use Rattle.rl_syntax.specs.DraftReading.{name_place}

-- the text is no name
abbrev pub no_name : Place → List ℕ → Condition
no_name p text = (not (is_name text), p)

-- a text of a list is no name
unfoldable pub no_names : NameList → List (List ℕ) → List Condition
no_names list = of_list (λ j text. no_name (name_place list j) text ∷ []) 0

-- a text of a box is no name
unfoldable pub of_box : ℕ → DraftBox → List Condition
of_box i b = no_name (BoxName i) b.name ∷ no_names (Arms i) b.arms

-- a text of a train is no name
unfoldable pub of_train : ℕ → DraftTrain → List Condition
of_train i t = no_name (TrainName i) t.name ∷ no_names (Route i) t.route

-- a text of a draft is no name
unfoldable pub name_conditions : Draft → List Condition
name_conditions d = no_names Segments d.segments ++ of_list of_box 0 d.boxes ++ of_list of_train 0 d.trains
