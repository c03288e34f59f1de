-- Who holds a segment and who has a lock, read off the rows.
use Rattle.std.proofs.Common.{◌≡◌, ℕ, true, false, slice_get, Option, Some, None, IfSome, IfNone, IsTrue, refl, arith}
use Rattle.std.proofs.lemmas.Bool.Decides.{nat_tests}
use Rattle.rl_base.specs.declared.ids.TrainId.{TrainId}
use Rattle.rl_model.specs.declared.network.NetworkPlan.{NetworkPlan}
use Rattle.rl_model.specs.Network.{arm_of, IsTrainOf}
use Rattle.rl_domain.specs.declared.states.PathLock.{PathLock}
use Rattle.rl_domain.specs.declared.states.BoxState.{BoxState}
use Rattle.rl_domain.specs.States.{is_lock, holder_at}
use Rattle.rl_domain.proofs.Meanings.{lock_in_range}
use Rattle.rl_domain.specs.Rows.{Rows, Fits, holder_of, lock_of}
use Rattle.std.specs.Option.{option_map_or, option_map}

-- the holders in a box's state are trains of the network
holder_in_state : (net : NetworkPlan) (rows : Rows) (b x : ℕ) (o : Option BoxState) (u : TrainId) → Fits net rows → slice_get rows.boxes b ≡ o
    → option_map_or (λ (state : BoxState). holder_at state x) o None ≡ Some u → IsTrainOf net u
holder_in_state net rows b x None u fits there h = cc
holder_in_state net rows b x (Some state) u fits there h = (fits.states b state there).holders x u h

holder_at_arm : (net : NetworkPlan) (rows : Rows) (b : ℕ) (arm : Option ℕ) (u : TrainId) → Fits net rows
    → option_map_or (λ x. option_map_or (λ (state : BoxState). holder_at state x) (slice_get rows.boxes b) None) arm None ≡ Some u → IsTrainOf net u
holder_at_arm net rows b None u fits h = cc
holder_at_arm net rows b (Some x) u fits h = holder_in_state net rows b x (slice_get rows.boxes b) u fits refl h

-- the holder of a segment is a train of the network
pub holder_in_range : (net : NetworkPlan) (rows : Rows) (s b : ℕ) (u : TrainId) → Fits net rows → holder_of net rows s b ≡ Some u → IsTrainOf net u
holder_in_range net rows s b u fits h = holder_at_arm net rows b (arm_of net s b) u fits h

-- a lock is its train's
pub locked_by_holder : (o : Option PathLock) (l : PathLock) → o ≡ Some l → is_lock l.t.0 l.s.0 l.s2.0 o ≡ true
locked_by_holder o l e = rw e (grind (arith, nat_tests))

-- whoever holds a segment is a train of the network
pub reserved_in_range : (net : NetworkPlan) (rows : Rows) (s b : ℕ) (o : Option TrainId) → Fits net rows → holder_of net rows s b ≡ o → IfSome o (IsTrainOf net)
reserved_in_range net rows s b None fits h = tt
reserved_in_range net rows s b (Some u) fits h = holder_in_range net rows s b u fits h

abbrev pub train_of_lock : Option PathLock → Option TrainId
train_of_lock o = option_map (λ (l : PathLock). l.t) o

-- whoever has a lock is a train of the network, and has it for some path
pub locked_in_range : (net : NetworkPlan) (rows : Rows) (b : ℕ) (o : Option PathLock) → Fits net rows → lock_of rows b ≡ o
    → IfSome (train_of_lock o) (IsTrainOf net)
locked_in_range net rows b None fits h = tt
locked_in_range net rows b (Some l) fits h = (lock_in_range net rows b l fits h).train

pub locked_for_path : (rows : Rows) (b : ℕ) (o : Option PathLock) → lock_of rows b ≡ o
    → IfSome (train_of_lock o) (λ u. (from : ℕ) × (to : ℕ) × IsTrue (is_lock u.0 from to (lock_of rows b)))
locked_for_path rows b None h = tt
locked_for_path rows b (Some l) h = (l.s.0, l.s2.0, locked_by_holder (lock_of rows b) l h)

-- without a lock no train has it
pub unlocked_without : (rows : Rows) (b : ℕ) (o : Option PathLock) → lock_of rows b ≡ o
    → IfNone (train_of_lock o) ((u from to : ℕ) → is_lock u from to (lock_of rows b) ≡ false)
unlocked_without rows b None h = λ u from to. rw h refl
unlocked_without rows b (Some l) h = tt
