use Rattle.std.proofs.Common.{◌≡◌, ℕ, ◌+◌, List, ◌++◌, take, bytes_eq, sym, ap, ◌∙◌, arith, zero-add, add-one, append_assoc}
use Rattle.rl_drafts.specs.Drafts.{ends_in_box}
use Rattle.rl_ends.proofs.Found.{number_below}
use Rattle.rl_ends.proofs.SegmentEnds.{end_if, ends_in_box_more, keeps_same, keeps_one, keeps_none}
use Rattle.rl_ends.proofs.segment_ends.SegmentEnds.add_box.Goals as goal
use Rattle.rl_ends.proofs.segment_ends.SegmentEnds.add_box.Goals.{in-Some, in_default}

pub add-requires : goal.add-requires
add-requires c =
    let below = number_below c.args.draft.now.segments c.bytes.result.now c.in-Some.s (c.in-Some.ensures c.args.draft.now.segments c.requires.numbers) in
    omega (arith, c.loop-x.invariant.0)

pub loop-x-preserved : goal.loop-x-preserved
loop-x-preserved c =
    let segments = c.args.draft.now.segments in
    let arms = c.args.arms.now in
    let b = c.args.b in
    let i = c.loop-x.x in
    let arm = c.bytes.result.now in
    let here = c.bytes.ensures ∙ sym (c.at.ensures.value arm) in
    let more : (ends : List ℕ → List _) (name : List ℕ)
    → ((ends name ++ ends_in_box b 0 (take i arms) name) ++ end_if (bytes_eq arm name) b i) ≡ (ends name ++ ends_in_box b 0 (take (i + 1) arms) name) =
    λ ends name. rw add-one (append_assoc (ends name) _ _
    ∙ ap (λ r. ends name ++ r) (sym (rw zero-add at (ends_in_box_more b 0 arms name i arm (omega arith) here)))) in
    elim c.match-number.branch [
      | in-Some w ↦ (
        rw w.self-is (w.add.ensures.length ∙ c.loop-x.invariant.0),
        λ ends keeps.
            let was = c.loop-x.invariant.1 ends keeps in
            let number = sym (w.in-Some.ensures segments c.requires.numbers) in
            let one = keeps_one segments c.loop-x.self.pairs.items w.add.new.self.pairs.items _ b i w.in-Some.s arm c.requires.unlike number
            w.add.ensures.changed w.add.ensures.others was in
            rw w.self-is (keeps_same segments w.add.new.self.pairs.items _ _ (more ends) one),
      )
      | in_default w ↦ (
        rw w.self-is c.loop-x.invariant.0,
        λ ends keeps.
            let was = c.loop-x.invariant.1 ends keeps in
            let none = keeps_none segments c.loop-x.self.pairs.items _ b i arm (sym (w.in_default.ensures segments c.requires.numbers)) was in
            rw w.self-is (keeps_same segments c.loop-x.self.pairs.items _ _ (more ends) none),
      )
    ]
