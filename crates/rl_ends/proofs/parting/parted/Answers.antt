use Rattle.std.proofs.Common.{List, ℕ, sym, ap, ◌∙◌, subst}
use Rattle.std.proofs.lemmas.List.{map-id}
use Rattle.rl_drafts.specs.Drafts.{number_in}
use Rattle.rl_ends.specs.EndsDrafts.{draft_of}
use Rattle.rl_ends.specs.EndRules.{IsUnbroken}
use Rattle.rl_ends.proofs.PartedLaws.{parted_is, parted_back, parted_unbroken}
use Rattle.rl_ends.proofs.parting.parted.Goals as goal

pub of-requires-2-clause-numbers : goal.of-requires-2-clause-numbers
of-requires-2-clause-numbers c = λ name.
    c.in_ok-numbers.ensures name ∙ ap (λ (ns : List (List ℕ)). number_in ns name) (map-id c.as_slice.result.now ∙ c.as_slice.ensures)

pub returns-clause-unbroken : goal.returns-clause-unbroken
returns-clause-unbroken c =
    let d = c.args.draft.now in
    let same = parted_is d c.in_ok-segments_from.field-0 c.in_ok-boxes_from.field-0 c.in_ok-trains_from.field-0 c.in_ok-segments_from.ensures
    c.in_ok-boxes_from.ensures c.in_ok-trains_from.ensures in
    subst IsUnbroken (sym same) (parted_unbroken d c.requires)

pub returns-clause-back : goal.returns-clause-back
returns-clause-back c =
    let d = c.args.draft.now in
    let same = parted_is d c.in_ok-segments_from.field-0 c.in_ok-boxes_from.field-0 c.in_ok-trains_from.field-0 c.in_ok-segments_from.ensures
    c.in_ok-boxes_from.ensures c.in_ok-trains_from.ensures in
    ap draft_of same ∙ parted_back d c.requires
