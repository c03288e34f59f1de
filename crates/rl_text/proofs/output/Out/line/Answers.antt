use Rattle.std.proofs.Common.{arith}
use Rattle.std.proofs.lemmas.Grind.{common_steps}
use Rattle.rl_text.proofs.LineWords.{line_behind}
use Rattle.rl_text.specs.Words.{texts}
use Rattle.rl_text.proofs.output.Out.line.Goals as goal

pub returns : goal.returns
returns c =
    let whole = line_behind c.args.self.now c.args.first.now (texts c.args.others.now) in
    grind (arith, common_steps, whole)
