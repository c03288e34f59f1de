use Rattle.rl_words.specs.Resv.{FitsResv, packed_resv}
use Rattle.rl_words.specs.Readings.{read_resv}
use Rattle.rl_words.proofs.ReadingLemmas.{read_resv-packed, read_resv_only, reads}
use Rattle.rl_words.proofs.resv.ResvWord.unpack.Goals as goal

pub returns-clause-read : goal.returns-clause-read
returns-clause-read c = reads FitsResv packed_resv read_resv c.args.payload _ read_resv-packed
    (read_resv_only c.args.payload) c.resv_of.ensures.some c.resv_of.ensures.none
