use Rattle.std.proofs.Common.{◌≡◌, ℕ, ◌+◌, List, ◌++◌, Some, take, length, sym, ap, ◌∙◌, arith, zero-add, add-one}
use Rattle.std.proofs.lemmas.Option.{slice_get_within}
use Rattle.rl_base.specs.declared.limits.TheConstants.{MAX_SEGMENTS}
use Rattle.rl_base.specs.declared.draft.Draft.{Draft}
use Rattle.rl_drafts.specs.Drafts.{ends_from, ends_in_box}
use Rattle.rl_net.proofs.EndLists.{ends_from_more}
use Rattle.rl_net.proofs.EndTables.{keeps_same, repeated}
use Rattle.rl_net.proofs.rule_10_ends.EndTable.of.Goals as goal

pub loop-b-init : goal.loop-b-init
loop-b-init c = λ s name there.
    let within = slice_get_within c.args.index.now.segments s name there in
    let few = c.requires.items.segments in
    repeated MAX_SEGMENTS c.none.result s (omega arith) ∙ ap Some c.none.ensures

pub loop-b-preserved : goal.loop-b-preserved
loop-b-preserved c =
    let d = c.args.index.now in
    let b = c.loop-b.b in
    let x = c.at.result.now in
    let here = rw c.draft-draft.ensures at (sym (c.at.ensures.value x)) in
    let more : (name : List ℕ) → (ends_from 0 (take b d.boxes) name ++ ends_in_box b 0 x.arms name) ≡ ends_from 0 (take (b + 1) d.boxes) name =
    λ name. rw add-one (sym (rw zero-add at
    (ends_from_more 0 d.boxes name b x (omega (arith, ap (λ (y : Draft). length y.boxes) c.draft-draft.ensures)) here))) in
    keeps_same d.segments c.add_box.new.self.ends _ _ more (c.add_box.ensures (ends_from 0 (take b d.boxes)) c.loop-b.invariant)
