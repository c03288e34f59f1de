use Rattle.rl_jam.proofs.InJams.{all_stuck, all_by_another, in_range}
use Rattle.rl_jam.proofs.laws.trains_in_jams.Goals as goal

pub returns : goal.returns
returns c = record { stuck = all_stuck; by_another = all_by_another; in_range = in_range }
