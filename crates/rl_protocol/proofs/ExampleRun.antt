-- The run of one train on the line of two segments fits step by step.
use Rattle.std.proofs.Common.{◌≡◌, true, drop, refl}
use Rattle.rl_drafts.specs.Drafts.{network_of}
use Rattle.rl_drafts.specs.Examples.{one_train}
use Rattle.rl_drafts.proofs.Networks.{IsNetwork-accepted}
use Rattle.rl_tables.specs.Examples.{one_train_tables}
use Rattle.rl_tables.proofs.Lines.{is_line}
use Rattle.rl_tables.proofs.ExampleTables.{example_tables}
use Rattle.rl_train.specs.Jobs.{letter, after_yes, reopens, is_pass, is_near, ends_step}
use Rattle.rl_protocol.specs.Minds.{at_rest}
use Rattle.rl_protocol.specs.Runs.{state_after, IsStepRun}
use Rattle.rl_protocol.specs.Worlds.{IsRailway}
use Rattle.rl_protocol.proofs.TableLines.{railway_of_tables}
use Rattle.rl_protocol.specs.Examples.{one_train_line, four_steps, whole_step}

pub begun : IsStepRun one_train_line 100 four_steps
unfolding letter is_near
begun = ((((tt, (refl, refl, refl, refl)), (refl, refl, refl, refl)), (refl, refl, refl)), (refl, refl))

-- the near end is reserved, the far end, and the box is locked
near_end : IsStepRun one_train_line 100 (drop 31 whole_step)
unfolding letter after_yes reopens is_pass is_near ends_step
near_end = (((((tt, (refl, refl, refl, refl)), (refl, refl, refl, refl)), (refl, refl, refl)), (refl, refl)), (refl, refl, refl))

far_end : IsStepRun one_train_line 100 (drop 26 whole_step)
unfolding letter after_yes reopens is_pass is_near ends_step
far_end = (((((near_end, (refl, refl, refl, refl)), (refl, refl, refl, refl)), (refl, refl, refl)), (refl, refl)), (refl, refl, refl))

locked : IsStepRun one_train_line 100 (drop 21 whole_step)
unfolding letter after_yes reopens is_pass is_near ends_step
locked = (((((far_end, (refl, refl, refl, refl)), (refl, refl, refl, refl)), (refl, refl, refl, refl)), (refl, refl)), (refl, refl, refl))

-- the train passes, and gives back the lock and the segment that it left
passed : IsStepRun one_train_line 100 (drop 15 whole_step)
unfolding letter after_yes reopens is_pass is_near ends_step
passed = ((((((locked, (refl, refl, refl)), (refl, refl)), (refl, refl)), (refl, refl)), (refl, refl)), (refl, refl, refl))

unlocked : IsStepRun one_train_line 100 (drop 10 whole_step)
unfolding letter after_yes reopens is_pass is_near ends_step
unlocked = (((((passed, (refl, refl, refl, refl)), (refl, refl, refl, refl)), (refl, refl, refl, refl)), (refl, refl)), (refl, refl, refl))

near_free : IsStepRun one_train_line 100 (drop 5 whole_step)
unfolding letter after_yes reopens is_pass is_near ends_step
near_free = (((((unlocked, (refl, refl, refl, refl)), (refl, refl, refl, refl)), (refl, refl, refl)), (refl, refl)), (refl, refl, refl))

pub whole : IsStepRun one_train_line 100 whole_step
unfolding letter after_yes reopens is_pass is_near ends_step
whole = (((((near_free, (refl, refl, refl, refl)), (refl, refl, refl, refl)), (refl, refl, refl)), (refl, refl)), (refl, refl, refl))

pub arrived : at_rest one_train_line 0 ((state_after one_train_line 100 whole_step).trains 0) ≡ true
unfolding after_yes reopens is_near ends_step
arrived = refl

pub railway : IsRailway (network_of one_train) one_train_line
railway =
    let network = IsNetwork-accepted one_train (record { segments = refl; boxes = refl; arms = refl; trains = refl; routes = refl }) refl in
    railway_of_tables (network_of one_train) one_train_tables network (is_line (network_of one_train) one_train_tables network example_tables) example_tables
