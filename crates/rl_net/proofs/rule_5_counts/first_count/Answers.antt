use Rattle.std.proofs.Common.{arith, sym, ◌∙◌}
use Rattle.rl_net.proofs.Few.{routes_short}
use Rattle.rl_net.proofs.rule_5_counts.first_count.Goals as goal

pub returns-else-len-gt-MAX_TRAINS-clause-few : goal.returns-else-len-gt-MAX_TRAINS-clause-few
returns-else-len-gt-MAX_TRAINS-clause-few c = λ none.
    record {
      segments = omega arith;
      boxes = omega arith;
      trains = omega arith;
      routes = routes_short c.args.draft.now (sym c.first_long_route.ensures ∙ none);
    }
