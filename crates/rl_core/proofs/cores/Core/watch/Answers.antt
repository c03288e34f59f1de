use Rattle.std.proofs.Common.{◌≡◌, ◌<◌, length, slice_get, Some, ap, sym, ◌∙◌, arith}
use Rattle.std.proofs.lemmas.Option.{slice_get-get_or, get_or_from_slice_get}
use Rattle.rl_core.specs.declared.speed.Watch.TheVariants.{Rarely}
use Rattle.rl_core.specs.declared.speed.Rare.TheVariants.{Closely}
use Rattle.rl_core.proofs.cores.Core.watch.Goals as goal

pub returns : goal.returns
returns c =
    let there = rw (← c.self.view_is) at c.requires in
    let within : c.args.n.0 < length c.self.inside.watches.items = omega (arith, there, c.self.invariant.1.size) in
    let found : slice_get c.self.inside.watches.items c.args.n.0 ≡ Some c.index.result.now =
    slice_get-get_or c.self.inside.watches.items c.args.n.0 c.index.result.now within ∙ ap Some (sym c.index.ensures) in
    rw (← c.self.view_is, ← get_or_from_slice_get c.self.inside.watches.items c.args.n.0 c.index.result.now (Rarely Closely) found)
    (c.self.invariant.1.each c.args.n.0 there)
