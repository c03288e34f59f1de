use Rattle.std.proofs.Common.{◌≡◌, Bool, true, false, refl, not, map, sym, ◌∙◌, arith}
use Rattle.std.proofs.lemmas.Bool.{not-false}
use Rattle.std.proofs.lemmas.List.{length-map}
use Rattle.rl_drafts.specs.Refusals.{is_among, is_twice}
use Rattle.rl_net.proofs.Growth.{map_step}
use Rattle.rl_net.proofs.Numbers.{is_twice_at, below_more, unlike_within}
use Rattle.rl_net.proofs.name_table.NameTable.of.Goals as goal

-- what fails where its negation passes
not_true : (x : Bool) → not x ≡ true → x ≡ false
not_true true e = sym e
not_true false e = refl

pub returns-then-not-branch-clause-fault : goal.returns-then-not-branch-clause-fault
returns-then-not-branch-clause-fault g c =
    let f = g.T.Named.name_of in
    let items = c.args.items.now in
    let count = length-map items f in
    let here = is_twice_at f items c.loop-i.i c.index-items-i.result (omega arith) c.index-items-i.is in
    let known : is_among c.loop-i.table c.name.result.now ≡ true = not-false _ (sym c.in_ok-add.ensures.new ∙ c.if-not-branch.true) in
    (omega (arith, count), here ∙ (rw (c.loop-i.invariant.0, c.name.ensures) at known), c.loop-i.invariant.1)

pub loop-i-preserved : goal.loop-i-preserved
loop-i-preserved g c =
    let f = g.T.Named.name_of in
    let items = c.args.items.now in
    let here = is_twice_at f items c.loop-i.i c.index-items-i.result (omega arith) c.index-items-i.is in
    let new : is_among c.loop-i.table c.name.result.now ≡ false = not_true _ (sym c.in_ok-add.ensures.new ∙ c.if-not-branch.false) in
    let fresh = here ∙ (rw (c.loop-i.invariant.0, c.name.ensures) at new) in (
      map_step f items c.loop-i.table c.add.new.self c.loop-i.i c.index-items-i.result c.name.result.now
          (omega arith) c.index-items-i.is c.loop-i.invariant.0 c.name.ensures (c.in_ok-add.ensures.added new),
      below_more (is_twice (map f items)) c.loop-i.i c.loop-i.invariant.1 fresh,
    )

pub returns-clause-unlike : goal.returns-clause-unlike
returns-clause-unlike g c =
    let f = g.T.Named.name_of in
    let items = c.args.items.now in
    let count = length-map items f in
    unlike_within (map f items) c.loop-i.i (omega (arith, count)) c.loop-i.invariant.1
