-- Small networks on which the definitions are tried: a line of two segments between two buffers, and a
-- point with its three segments.
use Rattle.std.specs.Prelude.{ℕ, List, [], ◌∷◌, ◌++◌, Option, Some, None, codes}
use Rattle.rl_base.specs.declared.ids.SegId.{SegId}
use Rattle.rl_base.specs.declared.ids.BoxId.{BoxId}
use Rattle.rl_base.specs.declared.ids.TrainId.{TrainId}
use Rattle.rl_base.specs.declared.kind.Kind.{Kind}
use Rattle.rl_base.specs.declared.kind.Kind.TheVariants.{Buffer, Joint, Point}
use Rattle.rl_base.specs.declared.kind.Side.{Side}
use Rattle.rl_base.specs.declared.kind.Side.TheVariants.{Right}
use Rattle.rl_base.specs.declared.draft.DraftBox.{DraftBox}
use Rattle.rl_base.specs.declared.draft.DraftTrain.{DraftTrain}
use Rattle.rl_base.specs.declared.draft.Draft.{Draft}
use Rattle.rl_base.specs.declared.place.Place.{Place}
use Rattle.rl_model.specs.declared.moves.Move.{Move}
use Rattle.rl_model.specs.declared.moves.Move.TheVariants.{Reserve, Release, Lock, Unlock, Throw, Settle, Enter, Leave, Refuse, Bar}
use Rattle.rl_model.specs.declared.report.Fate.TheVariants.{Arrived}
use Rattle.rl_model.specs.declared.report.Report.{Report}
use Rattle.rl_drafts.specs.Search.{Refusal}

abbrev pub seg : ℕ → SegId
seg n = record { 0 = n }

abbrev pub switch_box : ℕ → BoxId
switch_box n = record { 0 = n }

abbrev pub train : ℕ → TrainId
train n = record { 0 = n }

abbrev pub draft_box : List ℕ → Kind → List (List ℕ) → Option Side → DraftBox
draft_box name kind arms at = record { name = name; kind = kind; arms = arms; at = at }

abbrev pub draft_train : List ℕ → List (List ℕ) → DraftTrain
draft_train name route = record { name = name; route = route }

abbrev pub refused : ℕ → Place → Option Refusal
refused number place = Some (record { number = number; place = place })

-- the route from A through J1 to B
abbrev pub one_step : List (List ℕ)
one_step = codes "A" ∷ codes "J1" ∷ codes "B" ∷ []

-- buffer W, segment A, joint J1, segment B, buffer E
abbrev pub line_with : List (List ℕ) → List DraftBox → List DraftTrain → Draft
line_with joint_arms more trains =
    record {
      segments = codes "A" ∷ codes "B" ∷ [];
      boxes = draft_box (codes "W") Buffer (codes "A" ∷ []) None ∷ draft_box (codes "J1") Joint joint_arms None ∷ more;
      trains = trains;
    }

abbrev pub joint_arms : List (List ℕ)
joint_arms = codes "A" ∷ codes "B" ∷ []

abbrev pub east : DraftBox
east = draft_box (codes "E") Buffer (codes "B" ∷ []) None

abbrev pub line : List DraftTrain → Draft
line trains = line_with joint_arms (east ∷ []) trains

-- the line with one train that makes one step
abbrev pub one_train : Draft
one_train = line (draft_train (codes "T1") one_step ∷ [])

-- a point P whose stem is S and whose branches are L and R, and a train with this route
abbrev pub fork : Option Side → List (List ℕ) → Draft
fork at route =
    record {
      segments = codes "S" ∷ codes "L" ∷ codes "R" ∷ [];
      boxes =
          draft_box (codes "W") Buffer (codes "S" ∷ []) None
          ∷ draft_box (codes "P") Point (codes "S" ∷ codes "L" ∷ codes "R" ∷ []) at
          ∷ draft_box (codes "EL") Buffer (codes "L" ∷ []) None
          ∷ draft_box (codes "ER") Buffer (codes "R" ∷ []) None
          ∷ [];
      trains = draft_train (codes "T1") route ∷ [];
    }

-- the lock for the one train's one step
abbrev pub first_lock : Move
first_lock = Lock (train 0) (switch_box 1) (seg 0) (seg 1)

-- the eight moves of that step
abbrev pub eight_moves : List Move
eight_moves =
    Reserve (train 0) (seg 1) (switch_box 1)
    ∷ Reserve (train 0) (seg 1) (switch_box 2)
    ∷ first_lock
    ∷ Enter (train 0) (switch_box 1) (seg 0) (seg 1)
    ∷ Leave (train 0) (seg 0)
    ∷ Unlock (train 0) (switch_box 1)
    ∷ Release (train 0) (seg 0) (switch_box 1)
    ∷ Release (train 0) (seg 0) (switch_box 0)
    ∷ []

-- one move of each form on the fork
abbrev pub ten_moves : List Move
ten_moves =
    Reserve (train 0) (seg 2) (switch_box 1)
    ∷ Release (train 0) (seg 2) (switch_box 1)
    ∷ Lock (train 0) (switch_box 1) (seg 0) (seg 2)
    ∷ Unlock (train 0) (switch_box 1)
    ∷ Throw (switch_box 1)
    ∷ Settle (switch_box 1) Right
    ∷ Enter (train 0) (switch_box 1) (seg 0) (seg 2)
    ∷ Leave (train 0) (seg 0)
    ∷ Refuse (train 0) (seg 1) (switch_box 1) (train 0)
    ∷ Bar (train 0) (switch_box 1) (train 0)
    ∷ []

-- their lines
abbrev pub ten_lines : List ℕ
ten_lines =
    codes "reserve T1 R P\nrelease T1 R P\nlock T1 P S R\nunlock T1 P\nthrow P\nsettle P right\n"
    ++ codes "enter T1 P S R\nleave T1 S\nrefuse T1 L P T1\nbar T1 P T1\n"

-- what is reported of the eight moves
abbrev pub one_step_report : Report
one_step_report =
    record { tries = 100; moves = eight_moves; outcomes = record { fate = Arrived; made = 1; refused = 0 } ∷ [] }

abbrev pub one_step_text : List ℕ
one_step_text =
    codes "relis report 1\ntries 100\n"
    ++ codes "reserve T1 B J1\nreserve T1 B E\nlock T1 J1 A B\nenter T1 J1 A B\n"
    ++ codes "leave T1 A\nunlock T1 J1\nrelease T1 A J1\nrelease T1 A W\n"
    ++ codes "train T1 arrived 1 0\nend\n"
