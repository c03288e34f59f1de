use Rattle.std.proofs.Common.{rules}
use Rattle.rl_cli.specs.Orders.{Answers, order_of}
use Rattle.rl_cli.proofs.LimitsOf.{answers_within}
use Rattle.rl_cli.proofs.Laws.{answers_usage, answers_written, usage_answers, written_complete}
use Rattle.rl_cli.proofs.parser.parse.Goals as goal

pub returns : goal.returns
returns c =
    let answers : Answers (order_of c.args.words.now) c.order_in_words.result = search rules in
    let written = answers_written c.args.words.now c.order_in_words.result answers in
    record {
      answer = answers;
      written = written;
      exact = written_complete c.args.words.now;
      usage = (answers_usage c.args.words.now c.order_in_words.result answers, usage_answers c.args.words.now c.order_in_words.result answers);
      limits = answers_within c.order_in_words.result c.args.words.now written;
    }
