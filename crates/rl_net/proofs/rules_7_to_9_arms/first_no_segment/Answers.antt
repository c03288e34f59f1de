use Rattle.std.proofs.Common.{length, arith, sym, ap}
use Rattle.rl_base.specs.declared.draft.Draft.{Draft}
use Rattle.rl_drafts.specs.Search.{among_arms_of}
use Rattle.rl_net.proofs.Search.{first_below_found}
use Rattle.rl_net.proofs.rules_7_to_9_arms.first_no_segment.Goals as goal

pub returns-in-Some : goal.returns-in-Some
returns-in-Some c =
    let d = c.args.index.now in
    sym (first_below_found (among_arms_of d 8) c.loop-i.i (length d.boxes) c.in-Some.place c.loop-i.invariant (sym c.in-Some.ensures)
    (omega (arith, ap (λ (x : Draft). length x.boxes) c.draft.ensures)))
