use Rattle.std.proofs.Common.{List, IsPermutation, sym, subst, rules}
use Rattle.std.proofs.lemmas.List.Sorted.{answers_always}
use Rattle.rl_record.specs.declared.event.Event.{Event}
use Rattle.rl_record.specs.Records.{IsMergeOf}
use Rattle.rl_record.proofs.Sorting.{in_order, sorted_merge}
use Rattle.rl_record.proofs.merging.merge.Goals as goal

pub returns : goal.returns
returns c =
    let sorted = c.sort_unstable_by_key.new.self.items in
    let up = c.sort_unstable_by_key.ensures.sorted (λ e. (e.stamp, e.node)) (answers_always _ _ _ (λ f a r g h. search rules)) in
    let Moved : List Event → Type 0 = λ all. IsPermutation all sorted in
    let moved = subst Moved c.in_ok-events.ensures c.sort_unstable_by_key.ensures.permutation in
    let Merged : List Event → Type 0 = λ l. IsMergeOf c.args.records.now l in
    subst Merged (sym c.from_vec.ensures) (sorted_merge c.args.records.now sorted c.requires moved (in_order sorted up))
