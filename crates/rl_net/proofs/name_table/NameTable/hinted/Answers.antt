use Rattle.std.proofs.Common.{◌≡◌, length, slice_get, Some, refl, sym, ◌∙◌}
use Rattle.std.proofs.lemmas.Option.{slice_get_read}
use Rattle.std.proofs.lemmas.Slice.Eq.{bytes_eq-Decides}
use Rattle.rl_net.proofs.NameKeys.{number_of_key}
use Rattle.rl_net.proofs.name_table.NameTable.hinted.Goals as goal

pub returns-then-eq : goal.returns-then-eq
returns-then-eq c =
    let keys = c.self.inside.names.keys in
    let i = c.in_ok-i.field-0.now in
    let k = c.in_ok-found.found.now in
    let there : slice_get keys i ≡ Some k =
    rw (← c.as_slice.ensures.keys)
    (slice_get_read c.as_slice.result.now (length c.as_slice.result.now) i k refl c.in_ok-found.ensures.lookup.3.0 c.in_ok-found.ensures.lookup.1) in
    let same : k.items ≡ c.args.name.now =
    sym c.as_slice-2.ensures.value ∙ (bytes_eq-Decides c.as_slice-2.result.now c.args.name.now).0 (sym c.eq.ensures ∙ c.if-eq.true) in
    rw (← c.self.view_is) (number_of_key keys i k c.args.name.now c.as_slice.ensures.unique there same)
