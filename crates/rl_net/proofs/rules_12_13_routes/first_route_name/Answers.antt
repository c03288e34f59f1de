use Rattle.std.proofs.Common.{length, arith, sym, ap}
use Rattle.rl_base.specs.declared.draft.Draft.{Draft}
use Rattle.rl_drafts.specs.Search.{among_places_of}
use Rattle.rl_net.proofs.Search.{first_below_found}
use Rattle.rl_net.proofs.rules_12_13_routes.first_route_name.Goals as goal

pub returns-in-Some : goal.returns-in-Some
returns-in-Some c =
    let d = c.args.index.now in
    sym (first_below_found (among_places_of d 13) c.loop-i.i (length d.trains) c.in-Some.place c.loop-i.invariant (sym c.in-Some.ensures)
    (omega (arith, ap (λ (x : Draft). length x.trains) c.draft.ensures)))
