use Rattle.rl_merge.proofs.Later.{Laws}
use Rattle.rl_merge.proofs.Sorted.{merged_run}
use Rattle.rl_merge.proofs.laws.merged_runs.Goals as goal

pub returns : goal.returns
returns c =
    let laws : Laws = record { sound = c.sound_runs.ensures; steps = c.steps_of_owners.ensures; stamp = c.stamps.ensures.stamp } in
    record { run = merged_run laws c.one_merge.ensures; only = c.one_merge.ensures }
