use Rattle.rl_words.specs.Sense.{FitsSense, packed_sense}
use Rattle.rl_words.specs.Readings.{read_sense}
use Rattle.rl_words.proofs.ReadingLemmas.{read_sense-packed, read_sense_only, reads}
use Rattle.rl_words.proofs.sense.SenseWord.unpack.Goals as goal

pub returns-clause-read : goal.returns-clause-read
returns-clause-read c = reads FitsSense packed_sense read_sense c.args.payload _ read_sense-packed
    (read_sense_only c.args.payload) c.sense_of.ensures.some c.sense_of.ensures.none
