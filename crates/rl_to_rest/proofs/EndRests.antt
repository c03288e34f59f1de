-- Where every node's mind rests in the end, every train rests.
use Rattle.std.proofs.Common.{◌≡◌, ℕ, ◌<◌, ◌≤◌, true, List, length, slice_get, Some, subst, arith}
use Rattle.rl_base.specs.declared.layout.NodeKind.{NodeKind}
use Rattle.rl_base.specs.declared.layout.NodeKind.TheVariants as nodes
use Rattle.rl_core.specs.Reports.{AreMindsAfter}
use Rattle.rl_nodes.specs.Nodes.{is_at_rest}
use Rattle.rl_protocol.proofs.Moved.{item_there}
use Rattle.rl_record.specs.declared.event.Event.{Event}
use Rattle.rl_steps.specs.declared.mind.Mind.{Mind}
use Rattle.rl_steps.specs.declared.mind.Mind.TheVariants.{Train, Track, Box, Machine}
use Rattle.rl_steps.specs.Numbers.{node_at, train}
use Rattle.rl_steps.specs.Run.{state}
use Rattle.rl_steps.specs.Sound.{IsMindOf}
use Rattle.rl_steps.specs.State.{CoreState}
use Rattle.rl_steps.proofs.Numbering.{node_at-number}
use Rattle.rl_safety.specs.Rests.{AllTrainsRest}
use Rattle.rl_tables.specs.declared.table.Tables.{Tables}
use Rattle.rl_tables.specs.declared.table.TrainTable.{TrainTable}
use Rattle.rl_tables.specs.Starts.{layout_of}
use Rattle.rl_to_rest.proofs.AtRest.{HasRestingTrain, all_rest}

-- a train's node that has a mind of a train, at rest
resting_train : (tables : Tables) (c : CoreState) (t : ℕ) (mind : Mind) (x : TrainTable) → slice_get tables.trains t ≡ Some x → c.minds t ≡ mind
    → IsMindOf tables (nodes.Train (train t)) mind → is_at_rest tables t mind ≡ true → HasRestingTrain tables c t
resting_train tables c t (Train m) x there has formed rests =
    record { mind = m; table = x; there = there; has = has; rests = rw there at rests }
resting_train tables c t (Track m) x there has formed rests = absurd formed
resting_train tables c t (Box m) x there has formed rests = absurd formed
resting_train tables c t (Machine m) x there has formed rests = absurd formed

-- every mind is at rest, in the list of all
abbrev pub MindsRest : Tables → List Mind → Type 0
MindsRest tables minds = (n : ℕ) (mind : Mind) → slice_get minds n ≡ Some mind → is_at_rest tables n mind ≡ true

pub all_rest_after : (tables : Tables) (tries : ℕ) (events : List Event) (minds : List Mind) → AreMindsAfter tables tries events minds
    → length tables.trains ≤ length minds
    → ((n : ℕ) (node : NodeKind) → node_at (layout_of tables) n ≡ Some node → IsMindOf tables node ((state tables tries events).minds n))
    → MindsRest tables minds → AllTrainsRest tables (state tables tries events)
all_rest_after tables tries events minds are enough formed rest = all_rest tables (state tables tries events) each
  where
    each : (t : ℕ) → t < length tables.trains → HasRestingTrain tables (state tables tries events) t
    each t here =
        let x = item_there tables.trains t here in
        let m = item_there minds t (omega arith) in
        let has : (state tables tries events).minds t ≡ m.0 = are t m.0 m.1 in
        resting_train tables (state tables tries events) t m.0 x.0 x.1 has
        (subst (λ (mind : Mind). IsMindOf tables (nodes.Train (train t)) mind) has
        (formed t (nodes.Train (train t)) (node_at-number (layout_of tables) (nodes.Train (train t)) here)))
        (rest t m.0 m.1)
