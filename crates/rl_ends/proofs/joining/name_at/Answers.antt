use Rattle.std.proofs.Common.{sym, ◌∙◌, arith}
use Rattle.std.proofs.lemmas.Option.{same_Some}
use Rattle.rl_ends.proofs.Found.{half_within}
use Rattle.rl_ends.proofs.joining.name_at.Goals as goal

pub at-requires : goal.at-requires
at-requires c =
    let found = sym (same_Some _ _ (sym c.in-Some.ensures ∙ c.requires.keeps c.args.b c.args.x c.requires.box_in c.requires.arm_in)) in
    let within = half_within c.args.draft.now c.args.b c.args.x c.in-Some.k found in
    omega arith
