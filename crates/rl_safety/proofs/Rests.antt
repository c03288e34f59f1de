-- A turn answers Rest exactly for a train at rest.
use Rattle.std.proofs.Common.{◌≡◌, ◌↔◌, ℕ, ◌<◌, ◌==◌, Bool, true, false, not, ◌&&◌, ◌||◌, length, slice_get, Option, Some, None, option_map, refl, sym, ap, ◌∙◌}
use Rattle.std.proofs.Common.{if◌then◌else◌, arith}
use Rattle.std.proofs.lemmas.Bool.Decides.{nat_tests}
use Rattle.rl_base.specs.declared.layout.Layout.{Layout}
use Rattle.rl_base.specs.declared.layout.NodeKind.{NodeKind}
use Rattle.rl_base.specs.declared.layout.NodeKind.TheVariants as nodes
use Rattle.rl_base.specs.declared.layout.WordKind.TheVariants as kinds
use Rattle.rl_base.specs.Layout.{node_count, word_number}
use Rattle.rl_record.specs.declared.event.Event.{Event}
use Rattle.rl_record.specs.declared.event.Turn.TheVariants.{Rest}
use Rattle.rl_tables.specs.declared.table.Tables.{Tables}
use Rattle.rl_tables.specs.declared.table.TrainTable.{TrainTable}
use Rattle.rl_tables.specs.Starts.{layout_of}
use Rattle.rl_train.specs.declared.mind.TrainMind.{TrainMind}
use Rattle.rl_train.specs.Mind.{at_rest}
use Rattle.rl_train.specs.Steps.{train_target}
use Rattle.rl_steps.specs.declared.mind.Mind.{Mind}
use Rattle.rl_steps.specs.declared.mind.Mind.TheVariants.{Train, Track, Box, Machine}
use Rattle.rl_steps.specs.Numbers.{node_at}
use Rattle.rl_steps.specs.Sound.{IsMindOf}
use Rattle.rl_steps.specs.State.{CoreState, event_of}
use Rattle.rl_steps.specs.Step.{target_of}
use Rattle.rl_steps.specs.Turn.{Drive, answer_at, answer_of_target, target_in}
use Rattle.rl_steps.proofs.Sounding.{AreMinded}
use Rattle.rl_steps.proofs.ByKind.{train_target_at, track_target_at, box_target_at, machine_target_at}
use Rattle.rl_steps.proofs.Numbering.{node_at-some}
use Rattle.rl_train.specs.Jobs.{is_near, is_pass}
use Rattle.rl_protocol.specs.Minds.{at_rest as line_at_rest}
use Rattle.rl_protocol.specs.TableLine.{line_of}
use Rattle.rl_protocol.proofs.Moved.{item_there}
use Rattle.rl_safety.specs.Rests.{IsTrainAtRest}

swapped : (a b c : Bool) → (a && b && c) ≡ (b && (a && c))
swapped true true c = refl
swapped true false c = refl
swapped false true c = refl
swapped false false c = refl

-- whether a train rests, by its own table
pub rest_is : (tables : Tables) (t : ℕ) (x : TrainTable) (m : TrainMind) → slice_get tables.trains t ≡ Some x
    → line_at_rest (line_of tables) t m ≡ at_rest x m
rest_is tables t x m there = rw there (swapped (not m.waits) (is_near m.job) (m.step == length x.rows || m.left == 0))

-- a train looks at no word exactly at rest
no_target : (x : TrainTable) (m : TrainMind) (lay : Layout) → option_map (word_number lay) (train_target x m) ≡ None → at_rest x m ≡ true
no_target x m lay none = by (at_rest x m) (is_pass m.job) refl none
  where
    by : (rests pass : Bool) → at_rest x m ≡ rests
        → option_map (word_number lay) (if rests then None else
        (if pass then Some (if m.waits then kinds.Sense x.number else kinds.Run x.number) else Some (kinds.Mail x.number))) ≡ None
        → at_rest x m ≡ true
    by true pass is none = is
    by false true is none = absurd (cc)
    by false false is none = absurd (cc)

-- a number in range is that of a node
node_there : (lay : Layout) (n : ℕ) → n < node_count lay → (node : NodeKind) × (node_at lay n ≡ Some node)
node_there lay n there = by (node_at lay n) refl
  where
    by : (o : Option NodeKind) → node_at lay n ≡ o → (node : NodeKind) × (node_at lay n ≡ Some node)
    by (Some node) is = (node, is)
    by None is = absurd (grind (arith, nat_tests))

module _ (tables : Tables) (c : CoreState) (n scan : ℕ) where
  -- a node without a target is a train at rest
  rests_without : (node : NodeKind) (mind : Mind) → node_at (layout_of tables) n ≡ Some node → c.minds n ≡ mind → IsMindOf tables node mind
      → target_of tables n mind scan ≡ None
      → IsTrainAtRest tables c n
  rests_without (nodes.Train t) (Train m) at is sound none =
      let x = item_there tables.trains t.0 (node_at-some (layout_of tables) n (nodes.Train t) at).0 in
      let rests = no_target x.0 m (layout_of tables) (sym (train_target_at tables n scan t x.0 m at x.1) ∙ none) in
      record { train = t; mind = m; node = at; has = is; rests = rest_is tables t.0 x.0 m x.1 ∙ rests }
  rests_without (nodes.Train t) (Track m) at is sound none = absurd sound
  rests_without (nodes.Train t) (Box m) at is sound none = absurd sound
  rests_without (nodes.Train t) (Machine m) at is sound none = absurd sound
  rests_without (nodes.Track t) (Train m) at is sound none = absurd sound
  rests_without (nodes.Track t) (Track m) at is sound none = let some = track_target_at tables n scan t m at in absurd (cc)
  rests_without (nodes.Track t) (Box m) at is sound none = absurd sound
  rests_without (nodes.Track t) (Machine m) at is sound none = absurd sound
  rests_without (nodes.Box b) (Train m) at is sound none = absurd sound
  rests_without (nodes.Box b) (Track m) at is sound none = absurd sound
  rests_without (nodes.Box b) (Box m) at is sound none =
      let x = item_there tables.boxes b.0 (node_at-some (layout_of tables) n (nodes.Box b) at).0 in
      let some = box_target_at tables n scan b x.0 m at x.1 in
      absurd (cc)
  rests_without (nodes.Box b) (Machine m) at is sound none = absurd sound
  rests_without (nodes.Machine b) (Train m) at is sound none = absurd sound
  rests_without (nodes.Machine b) (Track m) at is sound none = absurd sound
  rests_without (nodes.Machine b) (Box m) at is sound none = absurd sound
  rests_without (nodes.Machine b) (Machine m) at is sound none = let some = machine_target_at tables n scan b m at in absurd (cc)

  -- and a train at rest has none
  without_target : IsTrainAtRest tables c n → target_of tables n (c.minds n) scan ≡ None
  without_target resting =
      let x = item_there tables.trains resting.train.0 (node_at-some (layout_of tables) n (nodes.Train resting.train) resting.node).0 in
      let rests : at_rest x.0 resting.mind ≡ true = sym (rest_is tables resting.train.0 x.0 resting.mind x.1) ∙ resting.rests in
      let none : train_target x.0 resting.mind ≡ None = rw rests refl in
      ap (λ k. target_of tables n k scan) resting.has ∙ train_target_at tables n scan resting.train x.0 resting.mind resting.node x.1
      ∙ ap (option_map (word_number (layout_of tables))) none

pub rest_exactly : (tables : Tables) (c : CoreState) (d : Drive) (n : ℕ) → n < node_count (layout_of tables) → AreMinded tables c
    → (answer_of_target tables c n (target_in tables c d n) ≡ Rest) ↔ IsTrainAtRest tables c n
rest_exactly tables c d n there minded = (
  λ e. rests_without tables c n (d.scans n) node.0 (c.minds n) node.1 refl (minded n node.0 node.1) (none (target_in tables c d n) refl e),
  λ resting. ap (answer_of_target tables c n) (without_target tables c n (d.scans n) resting),
)
  where
    node : (kind : NodeKind) × (node_at (layout_of tables) n ≡ Some kind)
    node = node_there (layout_of tables) n there

    answered : (w : ℕ) (o : Option Event) → answer_at c w o ≡ Rest → ⊥
    answered w None e = cc
    answered w (Some event) e = cc

    none : (o : Option ℕ) → target_in tables c d n ≡ o → answer_of_target tables c n (target_in tables c d n) ≡ Rest → target_in tables c d n ≡ None
    none None is e = is
    none (Some w) is e = absurd (answered w (event_of tables c n w) (sym (ap (answer_of_target tables c n) is) ∙ e))
