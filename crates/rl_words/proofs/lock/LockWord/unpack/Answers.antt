use Rattle.rl_words.specs.Lock.{FitsLock, packed_lock}
use Rattle.rl_words.specs.Readings.{read_lock}
use Rattle.rl_words.proofs.ReadingLemmas.{read_lock-packed, read_lock_only, reads}
use Rattle.rl_words.proofs.lock.LockWord.unpack.Goals as goal

pub returns-clause-read : goal.returns-clause-read
returns-clause-read c = reads FitsLock packed_lock read_lock c.args.payload _ read_lock-packed
    (read_lock_only c.args.payload) c.lock_of.ensures.some c.lock_of.ensures.none
