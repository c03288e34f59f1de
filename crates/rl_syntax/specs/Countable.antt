-- Lists whose items places can number.
use Rattle.std.specs.Prelude.{List, length, All}
use Rattle.rl_base.specs.Numbers.{IsU32}
use Rattle.rl_base.specs.declared.draft.Draft.{Draft}
use Rattle.rl_base.specs.declared.draft.DraftBox.{DraftBox}
use Rattle.rl_base.specs.declared.draft.DraftTrain.{DraftTrain}

-- each index of the list is a number of 32 bits
abbrev pub IsCountable : {A : Type 0} → List A → Type 0
IsCountable xs = IsU32 (length xs)

abbrev pub HasCountableArms : DraftBox → Type 0
HasCountableArms b = IsCountable b.arms

abbrev pub HasCountableRoute : DraftTrain → Type 0
HasCountableRoute t = IsCountable t.route

-- each list of the draft is such a list
pub record HasCountableLists (d : Draft) : Type 0 where
  pub segments : IsCountable d.segments
  pub boxes : IsCountable d.boxes
  pub arms : All HasCountableArms d.boxes
  pub trains : IsCountable d.trains
  pub routes : All HasCountableRoute d.trains
