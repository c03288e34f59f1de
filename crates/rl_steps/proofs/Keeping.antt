-- What every step of a node keeps to, from the laws of the minds.
use Rattle.std.proofs.Common.{◌≡◌, ℕ, ◌^◌, ◌<◌, ◌≤◌, Option, Some, option_map, option_and_then, slice_get, length, sym, ap, ◌∙◌, subst, arith}
use Rattle.std.proofs.lemmas.Option.{slice_get_within}
use Rattle.rl_base.specs.declared.ids.BoxId.{BoxId}
use Rattle.rl_base.specs.declared.ids.TrainId.{TrainId}
use Rattle.rl_base.specs.declared.layout.Layout.{Layout}
use Rattle.rl_base.specs.declared.layout.NodeKind.{NodeKind}
use Rattle.rl_base.specs.declared.layout.NodeKind.TheVariants as nodes
use Rattle.rl_base.specs.declared.layout.WordKind.{WordKind}
use Rattle.rl_base.specs.Layout.{word_number, node_number, HasWord, HasNode}
use Rattle.rl_words.specs.Owner.{Owns}
use Rattle.rl_tables.specs.declared.table.Tables.{Tables}
use Rattle.rl_tables.specs.declared.table.BoxTable.{BoxTable}
use Rattle.rl_tables.specs.declared.table.TrainTable.{TrainTable}
use Rattle.rl_tables.specs.Kept.{IsLine}
use Rattle.rl_tables.specs.Starts.{layout_of}
use Rattle.rl_train.specs.declared.mind.TrainMind.{TrainMind}
use Rattle.rl_train.specs.Mind.{IsTrainMind, IsUsable}
use Rattle.rl_train.specs.Steps.{train_step}
use Rattle.rl_train.specs.Kept.{IsTrainOn, KeepsTrain}
use Rattle.rl_box.specs.declared.mind.BoxMind.{BoxMind}
use Rattle.rl_box.specs.Mind.{IsBoxMind}
use Rattle.rl_box.specs.Steps.{box_step, box_target}
use Rattle.rl_box.specs.Kept.{IsAtWord, KeepsBox}
use Rattle.rl_track.specs.declared.track.TrackMind.{TrackMind}
use Rattle.rl_track.specs.declared.machine.MachineMind.{MachineMind}
use Rattle.rl_track.specs.Track.{track_step, IsTrackMind}
use Rattle.rl_track.specs.Machine.{machine_step}
use Rattle.rl_track.specs.Kept.{KeepsTrack, KeepsMachine}
use Rattle.rl_steps.specs.declared.mind.Mind.{Mind}
use Rattle.rl_steps.specs.declared.mind.Mind.TheVariants.{Train, Track, Box, Machine}
use Rattle.rl_steps.specs.Numbers.{node_at, word_at}
use Rattle.rl_steps.specs.Sound.{IsMindOf}
use Rattle.rl_steps.specs.Step.{node_step, step_of, as_mind, target_kind, LooksAt}
use Rattle.rl_steps.proofs.Numbering.{word_at-some, node_at-some}
use Rattle.rl_steps.proofs.Options.{from_map, from_then, same_some}

-- the laws of the minds
pub record StepsKeep : Type 0 where
  pub tables : (tables : Tables) (t : ℕ) (table : TrainTable) → IsLine tables → slice_get tables.trains t ≡ Some table → IsUsable table
  pub trains : (lay : Layout) (table : TrainTable) (mind : TrainMind) (kind : WordKind) (payload new : ℕ) (after : TrainMind) → IsTrainOn lay table mind
      → train_step table mind kind payload ≡ Some (new, after) → KeepsTrain lay table mind kind payload new after
  pub tracks : (lay : Layout) (t : TrainId) (mind : TrackMind) (kind : WordKind) (payload new : ℕ) (after : TrackMind) → t.0 < lay.trains → IsTrackMind mind
      → track_step t mind kind payload ≡ Some (new, after) → KeepsTrack lay t mind kind payload new after
  pub boxes : (lay : Layout) (b : BoxTable) (mind : BoxMind) (kind : WordKind) (payload new : ℕ) (after : BoxMind) → IsAtWord lay b mind kind
      → box_step b mind kind payload ≡ Some (new, after) → KeepsBox lay b mind kind payload new after
  pub machines : (lay : Layout) (b : BoxId) (mind : MachineMind) (kind : WordKind) (payload new : ℕ) (after : MachineMind) → b.0 < lay.boxes
      → machine_step b mind kind payload ≡ Some (new, after) → KeepsMachine lay b mind kind payload new after

-- what a step of the node keeps to, on the word of this kind
record Keeps (tables : Tables) (node : NodeKind) (old : Mind) (kind : WordKind) (payload : ℕ) (made : ℕ × Mind) : Type 0 where
  pub small : made.0 < 2 ^ 32
  pub mind : IsMindOf tables node made.1
  pub owned : Owns (layout_of tables) (word_number (layout_of tables) kind) payload (node_number (layout_of tables) node)
  pub looks : (scan : ℕ) × (scan ≤ length tables.trains) × (target_kind tables node old scan ≡ Some kind)

train_keeps : StepsKeep → (tables : Tables) (t : TrainId) (m : TrainMind) (kind : WordKind) (payload : ℕ) (made : ℕ × Mind) → IsLine tables
    → IsMindOf tables (nodes.Train t) (Train m) → step_of tables (nodes.Train t) (Train m) kind payload ≡ Some made
    → Keeps tables (nodes.Train t) (Train m) kind payload made
train_keeps laws tables t m kind payload made line sound step =
    let found = from_then (λ (x : TrainTable). as_mind Train (train_step x m kind payload)) (slice_get tables.trains t.0) made step in
    let x : TrainTable = found.0 in
    let stepped = from_map (λ (r : ℕ × TrainMind). let pair : ℕ × Mind = (r.0, Train r.1) in pair) (train_step x m kind payload) made found.2 in
    let within : t.0 < length tables.trains = slice_get_within tables.trains t.0 x found.1 in
    let number : x.number.0 ≡ t.0 = (line.trains t.0 x found.1).number in
    let there : x.number.0 < length tables.trains = omega arith in
    let on : IsTrainOn (layout_of tables) x m =
    record {
      boxes = line.few_boxes;
      trains = line.few_trains;
      there = there;
      table_is = laws.tables tables t.0 x line found.1;
      mind_is =
          sound x found.1;
    } in
    let kept = laws.trains (layout_of tables) x m kind payload stepped.0.0 stepped.0.1 on stepped.1 in
    let P : ℕ × Mind → Type 0 = λ r. Keeps tables (nodes.Train t) (Train m) kind payload r in
    let Owned : ℕ → Type 0 = λ n. Owns (layout_of tables) (word_number (layout_of tables) kind) payload n in
    subst P stepped.2 record {
      small = kept.small;
      mind = λ y is. let same : x ≡ y = same_some (slice_get tables.trains t.0) x y found.1 is in
          subst (λ (z : TrainTable). IsTrainMind z stepped.0.1) same kept.after_is;
      owned = subst Owned number kept.owned;
      looks = (0, omega arith, rw found.1 kept.target);
    }

track_keeps : StepsKeep → (tables : Tables) (t : TrainId) (m : TrackMind) (kind : WordKind) (payload : ℕ) (made : ℕ × Mind) → t.0 < length tables.trains
    → IsMindOf tables (nodes.Track t) (Track m) → step_of tables (nodes.Track t) (Track m) kind payload ≡ Some made
    → Keeps tables (nodes.Track t) (Track m) kind payload made
track_keeps laws tables t m kind payload made there sound step =
    let stepped = from_map (λ (r : ℕ × TrackMind). let pair : ℕ × Mind = (r.0, Track r.1) in pair) (track_step t m kind payload) made step in
    let kept = laws.tracks (layout_of tables) t m kind payload stepped.0.0 stepped.0.1 there sound stepped.1 in
    let P : ℕ × Mind → Type 0 = λ r. Keeps tables (nodes.Track t) (Track m) kind payload r in
    subst P stepped.2 record { small = kept.small; mind = kept.after_is; owned = kept.owned; looks = (0, omega arith, ap Some (sym kept.target)) }

box_keeps : StepsKeep → (tables : Tables) (b : BoxId) (m : BoxMind) (kind : WordKind) (payload : ℕ) (made : ℕ × Mind) → IsLine tables
    → HasWord (layout_of tables) kind → IsMindOf tables (nodes.Box b) (Box m) → step_of tables (nodes.Box b) (Box m) kind payload ≡ Some made
    → Keeps tables (nodes.Box b) (Box m) kind payload made
box_keeps laws tables b m kind payload made line has sound step =
    let found = from_then (λ (x : BoxTable). as_mind Box (box_step x m kind payload)) (slice_get tables.boxes b.0) made step in
    let x : BoxTable = found.0 in
    let stepped = from_map (λ (r : ℕ × BoxMind). let pair : ℕ × Mind = (r.0, Box r.1) in pair) (box_step x m kind payload) made found.2 in
    let within : b.0 < length tables.boxes = slice_get_within tables.boxes b.0 x found.1 in
    let number : x.number.0 ≡ b.0 = (line.boxes b.0 x found.1).number in
    let there : x.number.0 < length tables.boxes = omega arith in
    let on : IsAtWord (layout_of tables) x m kind =
    record { boxes = line.few_boxes; trains = line.few_trains; there = there; mind_is = sound x found.1; word = has } in
    let kept = laws.boxes (layout_of tables) x m kind payload stepped.0.0 stepped.0.1 on stepped.1 in
    let P : ℕ × Mind → Type 0 = λ r. Keeps tables (nodes.Box b) (Box m) kind payload r in
    let Owned : ℕ → Type 0 =
    λ n. Owns (layout_of tables) (word_number (layout_of tables) kind) payload (node_number (layout_of tables) (nodes.Box (record { 0 = n }))) in
    subst P stepped.2 record {
      small = kept.small;
      mind = λ y is. let same : x ≡ y = same_some (slice_get tables.boxes b.0) x y found.1 is in
          subst (λ (z : BoxTable). IsBoxMind (layout_of tables) z stepped.0.1) same kept.after_is;
      owned = subst Owned number kept.owned;
      looks = (
        kept.target.0,
        kept.target.1,
        ap (λ (o : Option BoxTable). option_map (λ (y : BoxTable). box_target (layout_of tables) y m kept.target.0) o) found.1 ∙ ap Some (sym kept.target.2),
      );
    }

machine_keeps : StepsKeep → (tables : Tables) (b : BoxId) (m : MachineMind) (kind : WordKind) (payload : ℕ) (made : ℕ × Mind) → b.0 < length tables.boxes
    → step_of tables (nodes.Machine b) (Machine m) kind payload ≡ Some made → Keeps tables (nodes.Machine b) (Machine m) kind payload made
machine_keeps laws tables b m kind payload made there step =
    let stepped = from_map (λ (r : ℕ × MachineMind). let pair : ℕ × Mind = (r.0, Machine r.1) in pair) (machine_step b m kind payload) made step in
    let kept = laws.machines (layout_of tables) b m kind payload stepped.0.0 stepped.0.1 there stepped.1 in
    let P : ℕ × Mind → Type 0 = λ r. Keeps tables (nodes.Machine b) (Machine m) kind payload r in
    subst P stepped.2 record { small = kept.small; mind = tt; owned = kept.owned; looks = (0, omega arith, ap Some (sym kept.target)) }

node_keeps : StepsKeep → (tables : Tables) (node : NodeKind) (mind : Mind) (kind : WordKind) (payload : ℕ) (made : ℕ × Mind) → IsLine tables
    → HasNode (layout_of tables) node → HasWord (layout_of tables) kind → IsMindOf tables node mind → step_of tables node mind kind payload ≡ Some made
    → Keeps tables node mind kind payload made
node_keeps laws tables (nodes.Train t) (Train m) kind payload made line there has sound step = train_keeps laws tables t m kind payload made line sound step
node_keeps laws tables (nodes.Train t) (Track m) kind payload made line there has sound step = absurd sound
node_keeps laws tables (nodes.Train t) (Box m) kind payload made line there has sound step = absurd sound
node_keeps laws tables (nodes.Train t) (Machine m) kind payload made line there has sound step = absurd sound
node_keeps laws tables (nodes.Track t) (Train m) kind payload made line there has sound step = absurd sound
node_keeps laws tables (nodes.Track t) (Track m) kind payload made line there has sound step = track_keeps laws tables t m kind payload made there sound step
node_keeps laws tables (nodes.Track t) (Box m) kind payload made line there has sound step = absurd sound
node_keeps laws tables (nodes.Track t) (Machine m) kind payload made line there has sound step = absurd sound
node_keeps laws tables (nodes.Box b) (Train m) kind payload made line there has sound step = absurd sound
node_keeps laws tables (nodes.Box b) (Track m) kind payload made line there has sound step = absurd sound
node_keeps laws tables (nodes.Box b) (Box m) kind payload made line there has sound step = box_keeps laws tables b m kind payload made line has sound step
node_keeps laws tables (nodes.Box b) (Machine m) kind payload made line there has sound step = absurd sound
node_keeps laws tables (nodes.Machine b) (Train m) kind payload made line there has sound step = absurd sound
node_keeps laws tables (nodes.Machine b) (Track m) kind payload made line there has sound step = absurd sound
node_keeps laws tables (nodes.Machine b) (Box m) kind payload made line there has sound step = absurd sound
node_keeps laws tables (nodes.Machine b) (Machine m) kind payload made line there has sound step = machine_keeps laws tables b m kind payload made there step

-- the same by numbers
pub record KeepsTo (tables : Tables) (n w payload : ℕ) (old : Mind) (made : ℕ × Mind) : Type 0 where
  pub small : made.0 < 2 ^ 32
  pub owned : Owns (layout_of tables) w payload n
  pub node : NodeKind
  pub at : node_at (layout_of tables) n ≡ Some node
  pub mind : IsMindOf tables node made.1
  pub looks : LooksAt tables n old w

pub step_keeps : StepsKeep → (tables : Tables) (n w payload : ℕ) (mind : Mind) (made : ℕ × Mind) → IsLine tables
    → ((node : NodeKind) → node_at (layout_of tables) n ≡ Some node → IsMindOf tables node mind) → node_step tables n mind w payload ≡ Some made
    → KeepsTo tables n w payload mind made
step_keeps laws tables n w payload mind made line sound step =
    let found = from_then (λ node. option_and_then (λ word. step_of tables node mind word payload) (word_at (layout_of tables) w))
    (node_at (layout_of tables) n) made (unfold node_step in step) in
    let word = from_then (λ kind. step_of tables found.0 mind kind payload) (word_at (layout_of tables) w) made found.2 in
    let node_is = node_at-some (layout_of tables) n found.0 found.1 in
    let word_is = word_at-some (layout_of tables) w word.0 word.1 in
    let kept = node_keeps laws tables found.0 mind word.0 payload made line node_is.0 word_is.0 (sound found.0 found.1) word.2 in
    let At : ℕ → Type 0 = λ x. Owns (layout_of tables) x payload (node_number (layout_of tables) found.0) in
    let By : ℕ → Type 0 = λ y. Owns (layout_of tables) w payload y in
    record {
      small = kept.small;
      owned = subst By node_is.1 (subst At word_is.1 kept.owned);
      node = found.0;
      at = found.1;
      mind = kept.mind;
      looks = record {
        scan = kept.looks.0;
        within = kept.looks.1;
        target =
            ap (λ (o : Option NodeKind). option_and_then (λ node. option_map (word_number (layout_of tables)) (target_kind tables node mind kept.looks.0)) o)
            found.1 ∙ ap (option_map (word_number (layout_of tables))) kept.looks.2 ∙ ap Some word_is.1;
      };
    }
