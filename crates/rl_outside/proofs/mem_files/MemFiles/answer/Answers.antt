use Rattle.std.proofs.Common.{◌≡◌, false, rules}
use Rattle.rl_outside.specs.Numbering.{fails_at}
use Rattle.rl_outside.proofs.mem_files.MemFiles.answer.Goals as goal

pub returns-clause-err : goal.returns-clause-err
returns-clause-err c =
    let passes : fails_at c.args.self.now.fails c.args.self.now.next ≡ false = search rules in
    let same : c.deref-2.result.now ≡ c.args.self.now.files = search rules in
    rw (passes, ← same) c.read_within.ensures.err
