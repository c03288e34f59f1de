use Rattle.std.proofs.Common.{◌≡◌, slice_get, Some, sym, ◌∙◌}
use Rattle.rl_net.proofs.Passages.{fits_at_box, fits_at_none}
use Rattle.rl_net.proofs.rule_14_fits.fits.Goals as goal

pub returns-in-Some : goal.returns-in-Some
returns-in-Some c =
    let here : slice_get c.args.route.now c.args.j ≡ Some c.bytes.result.now = cc in
    c.connects_at.ensures ∙ sym
    (fits_at_box c.args.index.now c.args.route.now c.args.j c.bytes.result.now c.in-Some.b c.at-in-Some.result.now here c.in-Some.ensures.number
    (rw c.draft.ensures at c.at-in-Some.ensures.there))

pub returns-in-None : goal.returns-in-None
returns-in-None c =
    let here : slice_get c.args.route.now c.args.j ≡ Some c.bytes.result.now = cc in
    sym (fits_at_none c.args.index.now c.args.route.now c.args.j c.bytes.result.now here c.in-None.ensures.number)
