-- The tables of a small network, worked out by hand: the line of two segments with one train, and its point.
use Rattle.std.specs.Prelude.{ℕ, List, [], ◌∷◌, ◌++◌, Option, Some, None, codes}
use Rattle.rl_base.specs.declared.ids.Arm.{Arm}
use Rattle.rl_base.specs.declared.ids.SegId.{SegId}
use Rattle.rl_base.specs.declared.kind.Kind.{Kind}
use Rattle.rl_base.specs.declared.kind.Kind.TheVariants.{Buffer, Joint, Point}
use Rattle.rl_base.specs.declared.kind.Side.{Side}
use Rattle.rl_base.specs.declared.kind.Side.TheVariants.{Left, Right}
use Rattle.rl_drafts.specs.Examples.{seg, switch_box, train}
use Rattle.rl_tables.specs.declared.table.BoxTable.{BoxTable}
use Rattle.rl_tables.specs.declared.table.StepRow.{StepRow}
use Rattle.rl_tables.specs.declared.table.TrainTable.{TrainTable}
use Rattle.rl_tables.specs.declared.table.Tables.{Tables}

abbrev pub arm : ℕ → Arm
arm n = record { 0 = n }

abbrev pub box : ℕ → Kind → Side → (seg0 seg1 seg2 seg3 : Option SegId) → BoxTable
box b kind side seg0 seg1 seg2 seg3 =
    record { number = switch_box b; kind = kind; side = side; seg0 = seg0; seg1 = seg1; seg2 = seg2; seg3 = seg3 }

-- W, J1 and E, between which A and B are segments 0 and 1
abbrev pub west : BoxTable
west = box 0 Buffer Left (Some (seg 0)) None None None

abbrev pub joint : BoxTable
joint = box 1 Joint Left (Some (seg 0)) (Some (seg 1)) None None

abbrev pub east : BoxTable
east = box 2 Buffer Left (Some (seg 1)) None None None

-- the step from A through J1 to B; the other end of B is arm 0 of E, and that of A is arm 0 of W. No step comes after it
abbrev pub only_step : StepRow
only_step =
    record {
      s = seg 0;
      s2 = seg 1;
      b = switch_box 1;
      x = arm 0;
      y = arm 1;
      c = switch_box 2;
      c_arm = arm 0;
      a = switch_box 0;
      a_arm = arm 0;
      next = None;
    }

abbrev pub only_train : TrainTable
only_train = record { number = train 0; first = seg 0; rows = only_step ∷ [] }

abbrev pub one_train_tables : Tables
one_train_tables = record { boxes = west ∷ joint ∷ east ∷ []; trains = only_train ∷ [] }

abbrev pub one_train_text : List ℕ
one_train_text =
    codes "relis tables 1\n"
    ++ codes "box 0 W buffer left\narm 0 A T1\n"
    ++ codes "box 1 J1 joint left\narm 0 A T1\narm 1 B *\n"
    ++ codes "box 2 E buffer left\narm 0 B *\n"
    ++ codes "train 0 T1 1\nstep 0 J1 0 1 E 0 W 0\nend\n"

-- a point whose branches L and R are segments 1 and 2, which stands at right
abbrev pub point : BoxTable
point = box 1 Point Right (Some (seg 0)) (Some (seg 1)) (Some (seg 2)) None
