use Rattle.std.proofs.Common.{◌≡◌, rules}
use Rattle.rl_tables.proofs.Ends.{ends_given, other_of_high}
use Rattle.rl_tables.proofs.compiler.span_from.Goals as goal

pub returns-then-eq-clause-other : goal.returns-then-eq-clause-other
returns-then-eq-clause-other c =
    let ends = ends_given c.args.net.now c.args.s.0 c.ends.result c.requires.network c.ends.ensures in
    let at : c.ends.result.0.0.0 ≡ c.args.b.0 = search rules in
    other_of_high c.args.net.now c.args.s.0 _ _ _ _ ends c.args.b.0 at
