use Rattle.rl_report.proofs.Steps.{no_moves_yet, long_from_moves, short_from_moves}
use Rattle.rl_report.proofs.laws.reading_laws.Goals as goal

pub returns : goal.returns
returns c = record { start = no_moves_yet; long = long_from_moves; short = short_from_moves }
