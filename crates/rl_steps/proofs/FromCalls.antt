-- From what a mind's own calls answer to the step and the target of its node.
use Rattle.std.proofs.Common.{◌≡◌, ℕ, ◌<◌, nat_lt, Bool, true, false, Option, Some, None, option_map, option_and_then, slice_get, length, refl, sym, ap, ◌∙◌, subst, if◌then◌else◌, arith}
use Rattle.std.proofs.lemmas.Bool.Decides.{nat_tests}
use Rattle.std.proofs.lemmas.Option.{slice_get_within}
use Rattle.rl_base.specs.declared.ids.BoxId.{BoxId}
use Rattle.rl_base.specs.declared.ids.TrainId.{TrainId}
use Rattle.rl_base.specs.declared.job.Verb.{Verb}
use Rattle.rl_base.specs.declared.job.Verb.TheVariants as verbs
use Rattle.rl_base.specs.declared.layout.Layout.{Layout}
use Rattle.rl_base.specs.declared.layout.NodeKind.TheVariants as nodes
use Rattle.rl_base.specs.declared.layout.WordKind.{WordKind}
use Rattle.rl_base.specs.declared.layout.WordKind.TheVariants as kinds
use Rattle.rl_base.specs.Layout.{word_number, HasWord}
use Rattle.rl_tables.specs.declared.table.Tables.{Tables}
use Rattle.rl_tables.specs.declared.table.BoxTable.{BoxTable}
use Rattle.rl_tables.specs.declared.table.TrainTable.{TrainTable}
use Rattle.rl_tables.specs.Kept.{IsLine}
use Rattle.rl_tables.specs.Starts.{layout_of}
use Rattle.rl_train.specs.declared.mind.TrainMind.{TrainMind}
use Rattle.rl_train.specs.Jobs.{is_pass}
use Rattle.rl_train.specs.Mind.{at_rest}
use Rattle.rl_train.specs.Steps.{train_step, train_target}
use Rattle.rl_box.specs.declared.mind.BoxMind.{BoxMind}
use Rattle.rl_box.specs.declared.mind.Work.{Work}
use Rattle.rl_box.specs.declared.mind.Work.TheVariants.{Ready, Serve, Say}
use Rattle.rl_box.specs.Mind.{IsBoxMind, IsWork}
use Rattle.rl_box.specs.Steps.{box_step, box_target, work_target, verb_target, scan_place}
use Rattle.rl_track.specs.declared.track.TrackMind.{TrackMind}
use Rattle.rl_track.specs.declared.track.TrackPhase.{TrackPhase}
use Rattle.rl_track.specs.declared.track.TrackPhase.TheVariants.{Watch, HeadDue, LeaveDue, TailDue}
use Rattle.rl_track.specs.declared.machine.MachineMind.{MachineMind}
use Rattle.rl_track.specs.Track.{track_step, track_target, phase_target}
use Rattle.rl_track.specs.Machine.{machine_step, machine_target}
use Rattle.rl_steps.specs.declared.mind.Mind.TheVariants.{Train, Track, Box, Machine}
use Rattle.rl_steps.specs.Numbers.{node_at, word_at}
use Rattle.rl_steps.specs.Step.{node_step, as_mind, target_of}
use Rattle.rl_steps.proofs.Numbering.{word_at-number, node_at-some}
use Rattle.rl_steps.proofs.Options.{from_map}
use Rattle.rl_steps.proofs.ByKind.{train_step_at, track_step_at, box_step_at, machine_step_at, train_target_at, track_target_at, box_target_at, machine_target_at}

-- the words at which nodes look are there
pub train_number : (tables : Tables) (t : ℕ) (x : TrainTable) → IsLine tables → slice_get tables.trains t ≡ Some x → x.number.0 < length tables.trains
train_number tables t x line there =
    let within : t < length tables.trains = slice_get_within tables.trains t x there in
    let number : x.number.0 ≡ t = (line.trains t x there).number in
    omega arith

box_number : (tables : Tables) (b : ℕ) (x : BoxTable) → IsLine tables → slice_get tables.boxes b ≡ Some x → x.number.0 < length tables.boxes
box_number tables b x line there =
    let within : b < length tables.boxes = slice_get_within tables.boxes b x there in
    let number : x.number.0 ≡ b = (line.boxes b x there).number in
    omega arith

train_target_there : (lay : Layout) (x : TrainTable) (m : TrainMind) (kind : WordKind) → x.number.0 < lay.trains → train_target x m ≡ Some kind
    → HasWord lay kind
train_target_there lay x m kind number is = by (at_rest x m) (is_pass m.job) m.waits kind is
  where
    by : (rests pass waits : Bool) (kind : WordKind)
        → (if rests then None else (if pass then Some (if waits then kinds.Sense x.number else kinds.Run x.number) else Some (kinds.Mail x.number))) ≡ Some kind
        → HasWord lay kind
    by true pass waits kind is = absurd (cc)
    by false true true kind is = let same : kinds.Sense x.number ≡ kind = cc in subst (HasWord lay) same number
    by false true false kind is = let same : kinds.Run x.number ≡ kind = cc in subst (HasWord lay) same number
    by false false waits kind is = let same : kinds.Mail x.number ≡ kind = cc in subst (HasWord lay) same number

phase_target_there : (lay : Layout) (t : TrainId) (phase : TrackPhase) → t.0 < lay.trains → HasWord lay (phase_target t phase)
phase_target_there lay t Watch there = there
phase_target_there lay t HeadDue there = there
phase_target_there lay t LeaveDue there = there
phase_target_there lay t TailDue there = there

scan_place_there : (lay : Layout) (x : BoxTable) (scan : ℕ) → x.number.0 < lay.boxes → HasWord lay (scan_place lay x scan)
scan_place_there lay x scan number = by (nat_lt scan lay.trains) refl
  where
    by : (b : Bool) → nat_lt scan lay.trains ≡ b → HasWord lay (if b then kinds.Mail (record { 0 = scan }) else kinds.Lock x.number)
    by true is = grind (arith, nat_tests)
    by false is = number

verb_target_there : (lay : Layout) (x : BoxTable) (verb : Verb) → x.number.0 < lay.boxes → HasWord lay (verb_target x verb)
verb_target_there lay x verbs.Reserve number = number
verb_target_there lay x verbs.Release number = number
verb_target_there lay x verbs.Lock number = number
verb_target_there lay x verbs.Unlock number = number

pub box_target_there : (lay : Layout) (x : BoxTable) (work : Work) (scan : ℕ) → x.number.0 < lay.boxes → IsWork lay x work
    → HasWord lay (work_target lay x work scan)
box_target_there lay x Ready scan number is = scan_place_there lay x scan number
box_target_there lay x (Serve t l) scan number is = verb_target_there lay x l.verb number
box_target_there lay x (Say t l answer) scan number is = is.0

-- a train
pub train_looks : (tables : Tables) (n scan : ℕ) (t : TrainId) (x : TrainTable) (m : TrainMind) (w : Option ℕ)
    → node_at (layout_of tables) n ≡ Some (nodes.Train t) → slice_get tables.trains t.0 ≡ Some x
    → w ≡ option_map (word_number (layout_of tables)) (train_target x m) → target_of tables n (Train m) scan ≡ w
train_looks tables n scan t x m w at there is = train_target_at tables n scan t x m at there ∙ sym is

pub train_acts : (tables : Tables) (n w payload : ℕ) (t : TrainId) (x : TrainTable) (m : TrainMind) (result : Option (ℕ × TrainMind)) → IsLine tables
    → node_at (layout_of tables) n ≡ Some (nodes.Train t) → slice_get tables.trains t.0 ≡ Some x
    → option_map (word_number (layout_of tables)) (train_target x m) ≡ Some w
    → result ≡ option_and_then (λ kind. train_step x m kind payload) (train_target x m) → node_step tables n (Train m) w payload ≡ as_mind Train result
train_acts tables n w payload t x m result line at there target is =
    let found = from_map (word_number (layout_of tables)) (train_target x m) w target in
    let has : HasWord (layout_of tables) found.0 = train_target_there (layout_of tables) x m found.0 (train_number tables t.0 x line there) found.1 in
    let word : word_at (layout_of tables) w ≡ Some found.0 =
    subst (λ (k : ℕ). word_at (layout_of tables) k ≡ Some found.0) found.2 (word_at-number (layout_of tables) found.0 has) in
    let step : result ≡ train_step x m found.0 payload = is ∙ ap (λ (o : Option WordKind). option_and_then (λ kind. train_step x m kind payload) o) found.1 in
    train_step_at tables n w payload t x m found.0 at there word ∙ ap (as_mind Train) (sym step)

-- its track
pub track_acts : (tables : Tables) (n w payload : ℕ) (t : TrainId) (m : TrackMind) (result : Option (ℕ × TrackMind))
    → node_at (layout_of tables) n ≡ Some (nodes.Track t) → w ≡ word_number (layout_of tables) (track_target t m)
    → result ≡ track_step t m (track_target t m) payload → node_step tables n (Track m) w payload ≡ as_mind Track result
track_acts tables n w payload t m result at target is =
    let there = (node_at-some (layout_of tables) n (nodes.Track t) at).0 in
    let has : HasWord (layout_of tables) (track_target t m) = phase_target_there (layout_of tables) t m.phase there in
    let word : word_at (layout_of tables) w ≡ Some (track_target t m) = rw target (word_at-number (layout_of tables) (track_target t m) has) in
    track_step_at tables n w payload t m (track_target t m) at word ∙ ap (as_mind Track) (sym is)

pub track_looks : (tables : Tables) (n scan w : ℕ) (t : TrainId) (m : TrackMind) → node_at (layout_of tables) n ≡ Some (nodes.Track t)
    → w ≡ word_number (layout_of tables) (track_target t m) → target_of tables n (Track m) scan ≡ Some w
track_looks tables n scan w t m at target = track_target_at tables n scan t m at ∙ ap Some (sym target)

-- a box
pub box_acts : (tables : Tables) (n w payload scan : ℕ) (b : BoxId) (x : BoxTable) (m : BoxMind) (result : Option (ℕ × BoxMind)) → IsLine tables
    → node_at (layout_of tables) n ≡ Some (nodes.Box b) → slice_get tables.boxes b.0 ≡ Some x → IsBoxMind (layout_of tables) x m
    → w ≡ word_number (layout_of tables) (box_target (layout_of tables) x m scan)
    → ((kind : WordKind) → HasWord (layout_of tables) kind → word_number (layout_of tables) kind ≡ w → result ≡ box_step x m kind payload)
    → node_step tables n (Box m) w payload ≡ as_mind Box result
box_acts tables n w payload scan b x m result line at there sound target is =
    let kind : WordKind = box_target (layout_of tables) x m scan in
    let has : HasWord (layout_of tables) (box_target (layout_of tables) x m scan) =
    box_target_there (layout_of tables) x m.work scan (box_number tables b.0 x line there) sound.work in
    let word : word_at (layout_of tables) w ≡ Some (box_target (layout_of tables) x m scan) =
    rw target (word_at-number (layout_of tables) (box_target (layout_of tables) x m scan) has) in
    box_step_at tables n w payload b x m (box_target (layout_of tables) x m scan) at there word
    ∙ ap (as_mind Box) (sym (is (box_target (layout_of tables) x m scan) has (sym target)))

pub box_looks : (tables : Tables) (n scan w : ℕ) (b : BoxId) (x : BoxTable) (m : BoxMind) → node_at (layout_of tables) n ≡ Some (nodes.Box b)
    → slice_get tables.boxes b.0 ≡ Some x → w ≡ word_number (layout_of tables) (box_target (layout_of tables) x m scan)
    → target_of tables n (Box m) scan ≡ Some w
box_looks tables n scan w b x m at there target = box_target_at tables n scan b x m at there ∙ ap Some (sym target)

-- a point machine
pub machine_acts : (tables : Tables) (n w payload : ℕ) (b : BoxId) (m : MachineMind) (result : Option (ℕ × MachineMind))
    → node_at (layout_of tables) n ≡ Some (nodes.Machine b) → w ≡ word_number (layout_of tables) (machine_target b)
    → result ≡ machine_step b m (machine_target b) payload → node_step tables n (Machine m) w payload ≡ as_mind Machine result
machine_acts tables n w payload b m result at target is =
    let there = (node_at-some (layout_of tables) n (nodes.Machine b) at).0 in
    let word : word_at (layout_of tables) w ≡ Some (machine_target b) = rw target (word_at-number (layout_of tables) (machine_target b) there) in
    machine_step_at tables n w payload b m (machine_target b) at word ∙ ap (as_mind Machine) (sym is)

pub machine_looks : (tables : Tables) (n scan w : ℕ) (b : BoxId) (m : MachineMind) → node_at (layout_of tables) n ≡ Some (nodes.Machine b)
    → w ≡ word_number (layout_of tables) (machine_target b) → target_of tables n (Machine m) scan ≡ Some w
machine_looks tables n scan w b m at target = machine_target_at tables n scan b m at ∙ ap Some (sym target)
