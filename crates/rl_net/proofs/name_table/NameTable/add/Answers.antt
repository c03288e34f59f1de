use Rattle.std.proofs.Common.{◌≡◌, false, not, ap, ◌∙◌}
use Rattle.rl_drafts.specs.Refusals.{is_among}
use Rattle.rl_net.proofs.NameKeys.{names_of, any-among, names_added}
use Rattle.rl_net.proofs.name_table.NameTable.add.Goals as goal

pub returns-clause-new : goal.returns-clause-new
returns-clause-new c =
    let v = c.in_ok-from_slice.field-0 in
    rw (← c.self.view_is, ← c.in_ok-from_slice.ensures.items) (c.in_ok-insert.ensures.added ∙ ap not (any-among c.self.inside.names.keys v.items))

pub returns-clause-added : goal.returns-clause-added
returns-clause-added c = λ h.
    let v = c.in_ok-from_slice.field-0 in
    let keys = c.self.inside.names.keys in
    let new : is_among (names_of keys) v.items ≡ false = rw (c.self.view_is, c.in_ok-from_slice.ensures.items) h in
    rw (← c.self.view_is, ← c.in_ok-from_slice.ensures.items) (ap names_of c.in_ok-insert.ensures.keys ∙ names_added keys v new)
