-- Words and minds at the start fit.
use Rattle.std.proofs.Common.{◌≡◌, ℕ, ◌*◌, ◌^◌, ◌<◌, ◌≤◌, ◌==◌, length, slice_get, find, Option, Some, None, refl, sym, ap, ◌∙◌, subst, arith}
use Rattle.std.specs.Option.{option_map_or}
use Rattle.std.specs.List.{position_or_len}
use Rattle.std.proofs.lemmas.List.Folds.{find_at}
use Rattle.std.proofs.lemmas.Option.{slice_get_within}
use Rattle.rl_base.specs.declared.ids.SegId.{SegId}
use Rattle.rl_base.specs.declared.ids.TrainId.{TrainId}
use Rattle.rl_base.specs.declared.kind.Side.{Side}
use Rattle.rl_base.specs.declared.kind.Side.TheVariants.{Left, Right}
use Rattle.rl_base.specs.declared.layout.NodeKind.{NodeKind}
use Rattle.rl_base.specs.declared.layout.NodeKind.TheVariants as nodes
use Rattle.rl_base.specs.declared.layout.WordKind.{WordKind}
use Rattle.rl_base.specs.declared.layout.WordKind.TheVariants as words
use Rattle.rl_words.specs.Resv.{arm_code, packed_resv}
use Rattle.rl_words.specs.Lock.{side_code, packed_lock}
use Rattle.rl_tables.specs.declared.table.BoxTable.{BoxTable}
use Rattle.rl_tables.specs.declared.table.TrainTable.{TrainTable}
use Rattle.rl_tables.specs.declared.table.Tables.{Tables}
use Rattle.rl_tables.specs.Kept.{IsLine}
use Rattle.rl_tables.specs.Starts.{layout_of, starter_of, arm_holder, start_resv, start_lock, start_payload}
use Rattle.rl_base.specs.Tries.{AreFewTries}
use Rattle.rl_train.specs.Jobs.{is_near, is_open, names_next}
use Rattle.rl_train.specs.Mind.{IsTrainMind, start_train}
use Rattle.rl_steps.specs.Numbers.{node_at, word_at}
use Rattle.rl_steps.specs.State.{start_word, start_mind, start_mind_of}
use Rattle.rl_steps.specs.Sound.{IsMindOf}
use Rattle.rl_steps.proofs.Options.{from_map}

pub holder_fits : (tables : Tables) (s : ℕ) (t : TrainId) → IsLine tables → starter_of tables s ≡ Some t → t.0 < 32
holder_fits tables s t line is =
    let found = from_map (λ (x : TrainTable). x.number) (find (λ (x : TrainTable). x.first.0 == s) tables.trains) t is in
    let place : ℕ = position_or_len (λ (x : TrainTable). x.first.0 == s) tables.trains in
    let there : slice_get tables.trains place ≡ Some found.0 = sym (find_at (λ (x : TrainTable). x.first.0 == s) tables.trains) ∙ found.1 in
    let within : place < length tables.trains = slice_get_within tables.trains place found.0 there in
    let number : found.0.number.0 ≡ place = (line.trains place found.0 there).number in
    let same : found.0.number.0 ≡ t.0 = ap (λ (u : TrainId). u.0) found.2 in
    let few : length tables.trains ≤ 32 = line.few_trains in
    omega arith

code_fits : (o : Option TrainId) → ((t : TrainId) → o ≡ Some t → t.0 < 32) → arm_code o ≤ 32
code_fits None fits = omega arith
code_fits (Some t) fits = let small : t.0 < 32 = fits t refl in omega arith

arm_fits : (tables : Tables) (s : Option SegId) → IsLine tables → arm_code (arm_holder tables s) ≤ 32
arm_fits tables None line = omega arith
arm_fits tables (Some s) line = code_fits (starter_of tables s.0) (λ t. holder_fits tables s.0 t line)

resv_fits : (tables : Tables) (x : BoxTable) → IsLine tables → packed_resv (start_resv tables x) < 2 ^ 32
resv_fits tables x line =
    let h0 : arm_code (arm_holder tables x.seg0) ≤ 32 = arm_fits tables x.seg0 line in
    let h1 : arm_code (arm_holder tables x.seg1) ≤ 32 = arm_fits tables x.seg1 line in
    let h2 : arm_code (arm_holder tables x.seg2) ≤ 32 = arm_fits tables x.seg2 line in
    let h3 : arm_code (arm_holder tables x.seg3) ≤ 32 = arm_fits tables x.seg3 line in
    omega arith

side_fits : (side : Side) → side_code side * 2 ^ 3 < 2 ^ 32
side_fits Left = omega arith
side_fits Right = omega arith

mapped_fits : {A : Type 0} (f : A → ℕ) (o : Option A) → ((a : A) → f a < 2 ^ 32) → option_map_or f o 0 < 2 ^ 32
mapped_fits f None fits = omega arith
mapped_fits f (Some a) fits = fits a

payload_fits : (tables : Tables) (kind : WordKind) → IsLine tables → start_payload tables kind < 2 ^ 32
payload_fits tables words.Still line = omega arith
payload_fits tables (words.Resv b) line = mapped_fits (λ x. packed_resv (start_resv tables x)) (slice_get tables.boxes b.0) (λ x. resv_fits tables x line)
payload_fits tables (words.Lock b) line = mapped_fits (λ x. packed_lock (start_lock x)) (slice_get tables.boxes b.0) (λ x. side_fits x.side)
payload_fits tables (words.Mail t) line = omega arith
payload_fits tables (words.Run t) line = omega arith
payload_fits tables (words.Sense t) line = omega arith

pub start_fits : (tables : Tables) (w : ℕ) → IsLine tables → start_word tables w < 2 ^ 32
start_fits tables w line = mapped_fits (start_payload tables) (word_at (layout_of tables) w) (λ kind. payload_fits tables kind line)

start_train-fits : (tries : ℕ) (x : TrainTable) → AreFewTries tries → IsTrainMind x (start_train tries)
unfolding is_near is_open names_next
start_train-fits tries x few = record { within = omega arith; on_route = λ e. absurd (cc); ahead = λ e. absurd (cc); few = omega arith }

start_mind_at : (tables : Tables) (tries : ℕ) (node : NodeKind) → AreFewTries tries → IsMindOf tables node (start_mind_of tries (Some node))
start_mind_at tables tries (nodes.Train t) few = λ x is. start_train-fits tries x few
start_mind_at tables tries (nodes.Track t) few = omega arith
start_mind_at tables tries (nodes.Box b) few = λ x is. record { work = tt; waiting = tt }
start_mind_at tables tries (nodes.Machine b) few = tt

pub start_minds : (tables : Tables) (tries n : ℕ) (node : NodeKind) → AreFewTries tries → node_at (layout_of tables) n ≡ Some node
    → IsMindOf tables node (start_mind tables tries n)
start_minds tables tries n node few at =
    let P : Option NodeKind → Type 0 = λ o. IsMindOf tables node (start_mind_of tries o) in
    subst P (sym at) (start_mind_at tables tries node few)
