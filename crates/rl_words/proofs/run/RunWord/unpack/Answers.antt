use Rattle.rl_words.specs.Run.{FitsRun, packed_run}
use Rattle.rl_words.specs.Readings.{read_run}
use Rattle.rl_words.proofs.ReadingLemmas.{read_run-packed, read_run_only, reads}
use Rattle.rl_words.proofs.run.RunWord.unpack.Goals as goal

pub returns-clause-read : goal.returns-clause-read
returns-clause-read c = reads FitsRun packed_run read_run c.args.payload _ read_run-packed
    (read_run_only c.args.payload) c.run_of.ensures.some c.run_of.ensures.none
