use Rattle.std.proofs.Common.{◌≡◌, ℕ, suc, ◌-◌, ◌<◌, length, map, slice_get, Some, refl, sym, ap, ◌∙◌, subst, arith}
use Rattle.std.proofs.lemmas.Option.{slice_get_read}
use Rattle.rl_drafts.proofs.Lookups.{item_mapped}
use Rattle.rl_ends.proofs.Numbers.{HasNumbersFrom, HasNumbersFrom-more}
use Rattle.rl_ends.proofs.number_table.NumberTable.of.Goals as goal

pub loop-i-preserved : goal.loop-i-preserved
loop-i-preserved g c =
    let f = g.T.Named.name_of in
    let items = c.args.items.now in
    let i = c.loop-i.i - 1 in
    let x = c.index-items-i.result in
    let within : i < length items = omega (arith, c.loop-i.invariant.0) in
    let there : slice_get (map f items) i ≡ Some (f x) = item_mapped f items i x (slice_get_read items (length items) i x refl within c.index-items-i.is) in
    let next : c.loop-i.i ≡ suc i = omega arith in
    let before = subst (λ (k : ℕ). HasNumbersFrom c.loop-i.table.numbers.entries k (map f items)) next c.loop-i.invariant.1 in (
      omega (arith, c.loop-i.invariant.0),
      HasNumbersFrom-more c.loop-i.table.numbers.entries c.note.new.self.numbers.entries (map f items) i c.name.result.now
          (there ∙ ap Some (sym c.name.ensures)) c.in_ok-note.ensures before,
    )
