use Rattle.std.proofs.Common.{ℕ, List, Some, cond, bytes_eq, ap, ◌∙◌}
use Rattle.rl_ends.specs.Tables.{noted}
use Rattle.rl_ends.proofs.Numbers.{noted_more}
use Rattle.rl_ends.proofs.number_table.NumberTable.note.Goals as goal

pub returns : goal.returns
returns c = λ other.
    let v = c.in_ok-from_slice.field-0 in
    let old = c.args.self.now.numbers.entries in
    ap (λ es. noted es other) c.in_ok-insert.ensures.entries
    ∙ (noted_more old v c.args.i other
    ∙ ap (λ (name : List ℕ). cond (bytes_eq other name) (Some c.args.i) (noted old other)) c.in_ok-from_slice.ensures.items)
