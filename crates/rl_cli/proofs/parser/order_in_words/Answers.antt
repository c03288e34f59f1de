use Rattle.std.proofs.Common.{◌∙◌, ◌<◌, ◌≤◌, List, ℕ, Option, ap, sym, subst, arith, drop, length}
use Rattle.rl_cli.specs.Orders.{Answers, order_named}
use Rattle.rl_cli.specs.declared.order.Order.{Order}
use Rattle.rl_cli.proofs.Laws.{none_of_no_words, order_by_first}
use Rattle.rl_cli.proofs.parser.order_in_words.Goals as goal

pub returns-in-empty : goal.returns-in-empty
returns-in-empty c =
    let none : length c.args.words.now < 1 = omega (arith, c.in-empty.len_below) in
    none_of_no_words c.args.words.now none

pub returns-in-len1-up : goal.returns-in-len1-up
returns-in-len1-up c =
    let words = c.args.words.now in
    let some : 1 ≤ length c.args.words.now = omega (arith, c.in-len1-up.len_at_least) in
    let named = order_by_first c.args.words.now c.name-item.result some c.name-item.is
    ∙ ap (λ (n : List ℕ). order_named n (drop 1 c.args.words.now)) (sym c.as_str.ensures) in
    subst (λ (o : Option Order). Answers o c.order_for.result) (sym named) c.order_for.ensures
