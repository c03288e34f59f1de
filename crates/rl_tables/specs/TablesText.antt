-- The text of the tables, line by line: each box with its arms, each train with its steps.
use Rattle.std.specs.Prelude.{ℕ, suc, List, [], ◌∷◌, ◌++◌, length, Option, Some, None, codes, decimal, flat_map}
use Rattle.std.specs.Option.{option_map_or}
use Rattle.rl_base.specs.declared.ids.SegId.{SegId}
use Rattle.rl_base.specs.declared.ids.TrainId.{TrainId}
use Rattle.rl_base.specs.Kind.{kind_word, side_word}
use Rattle.rl_model.specs.declared.network.NetworkPlan.{NetworkPlan}
use Rattle.rl_model.specs.Network.{segment_name, box_name, train_name}
use Rattle.rl_model.specs.ReportText.{line_of}
use Rattle.rl_tables.specs.declared.table.BoxTable.{BoxTable}
use Rattle.rl_tables.specs.declared.table.StepRow.{StepRow}
use Rattle.rl_tables.specs.declared.table.TrainTable.{TrainTable}
use Rattle.rl_tables.specs.declared.table.Tables.{Tables}
use Rattle.rl_tables.specs.Starts.{starter_of}

-- the name of the train that holds segment s at the start, or a star
abbrev pub holder_word : NetworkPlan → Tables → ℕ → List ℕ
holder_word net tables s = option_map_or (λ (t : TrainId). train_name net t.0) (starter_of tables s) (codes "*")

-- the line of arm i with segment s, if the box has that arm
abbrev pub arm_line : NetworkPlan → Tables → ℕ → Option SegId → List ℕ
arm_line net tables i (Some s) =
    line_of (codes "arm" ∷ decimal i ∷ segment_name net s.0 ∷ holder_word net tables s.0 ∷ [])
arm_line net tables i None = []

-- the line that names a box
abbrev pub box_line : NetworkPlan → BoxTable → List ℕ
box_line net x = line_of
    (codes "box" ∷ decimal x.number.0 ∷ box_name net x.number.0 ∷ kind_word x.kind ∷ side_word x.side ∷ [])

-- that line and those of the arms
abbrev pub box_lines : NetworkPlan → Tables → BoxTable → List ℕ
box_lines net tables x =
    box_line net x
    ++ arm_line net tables 0 x.seg0
    ++ arm_line net tables 1 x.seg1
    ++ arm_line net tables 2 x.seg2
    ++ arm_line net tables 3 x.seg3

-- the line of step k
abbrev pub step_line : NetworkPlan → ℕ → StepRow → List ℕ
step_line net k row =
    line_of (codes "step" ∷ decimal k ∷ box_name net row.b.0 ∷ decimal row.x.0 ∷ decimal row.y.0
    ∷ box_name net row.c.0 ∷ decimal row.c_arm.0 ∷ box_name net row.a.0 ∷ decimal row.a_arm.0 ∷ [])

-- the lines of the steps from number k on
abbrev pub step_lines : NetworkPlan → ℕ → List StepRow → List ℕ
step_lines net k [] = []
step_lines net k (row ∷ rows) = step_line net k row ++ step_lines net (suc k) rows

-- the line that names a train
abbrev pub train_line : NetworkPlan → TrainTable → List ℕ
train_line net x = line_of
    (codes "train" ∷ decimal x.number.0 ∷ train_name net x.number.0 ∷ decimal (length x.rows) ∷ [])

-- that line and those of the steps
abbrev pub train_lines : NetworkPlan → TrainTable → List ℕ
train_lines net x = train_line net x ++ step_lines net 0 x.rows

abbrev pub tables_text : NetworkPlan → Tables → List ℕ
tables_text net tables =
    codes "relis tables 1\n"
    ++ flat_map (box_lines net tables) tables.boxes
    ++ flat_map (train_lines net) tables.trains
    ++ codes "end\n"
