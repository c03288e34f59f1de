use Rattle.rl_merge.proofs.Later.{Laws}
use Rattle.rl_merge.proofs.Chaining.{led_run, run_chained, run_left}
use Rattle.rl_merge.proofs.laws.chains_of_runs.Goals as goal

pub returns : goal.returns
returns c =
    let laws : Laws = record { sound = c.sound_runs.ensures; steps = c.steps_of_owners.ensures; stamp = c.stamps.ensures.stamp } in
    record { chained = run_chained laws; left = run_left laws; clocks = λ tables tries log run. (led_run tables tries log run).clocks }
