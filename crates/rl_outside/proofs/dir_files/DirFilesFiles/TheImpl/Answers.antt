use Rattle.std.proofs.Common.{arith, rules, refl}
use Rattle.rl_outside.proofs.Named.{times_in-failed_after}
use Rattle.rl_outside.proofs.dir_files.DirFilesFiles.TheImpl.Goals as goal

pub fetch-tells : goal.fetch-tells
fetch-tells g c = record {
  within = search rules;
  told = grind arith;
  too_long = grind arith;
  cause = search rules;
  others = search rules;
  later = λ n. rw c.ensures.after (times_in-failed_after c.result c.args.self.now c.args.name.now n);
  files_stay = λ n. refl;
}
