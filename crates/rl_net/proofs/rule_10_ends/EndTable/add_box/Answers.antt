use Rattle.std.proofs.Common.{◌≡◌, ℕ, ◌+◌, List, ◌++◌, take, bytes_eq, sym, ap, ◌∙◌, arith, zero-add, add-one, append_assoc}
use Rattle.rl_drafts.specs.Drafts.{ends_in_box}
use Rattle.rl_net.proofs.EndLists.{end_if, ends_in_box_more}
use Rattle.rl_net.proofs.EndTables.{keeps_same, keeps_one, keeps_none}
use Rattle.rl_net.proofs.rule_10_ends.EndTable.add_box.Goals as goal
use Rattle.rl_net.proofs.rule_10_ends.EndTable.add_box.Goals.{in-Some, in_default}

pub loop-i-preserved : goal.loop-i-preserved
loop-i-preserved c = λ ends keeps.
    let segments = c.args.index.now.segments in
    let arms = c.args.arms.now in
    let b = c.args.b in
    let i = c.loop-i.i in
    let arm = c.bytes.result.now in
    let here = c.bytes.ensures ∙ sym (c.at.ensures.value arm) in
    let more : (name : List ℕ)
    → ((ends name ++ ends_in_box b 0 (take i arms) name) ++ end_if (bytes_eq arm name) b i) ≡ (ends name ++ ends_in_box b 0 (take (i + 1) arms) name) =
    λ name. rw add-one (append_assoc (ends name) _ _
    ∙ ap (λ r. ends name ++ r) (sym (rw zero-add at (ends_in_box_more b 0 arms name i arm (omega arith) here)))) in
    let was = c.loop-i.invariant ends keeps in
    elim c.match-segment_number.branch [
      | in-Some w ↦
          (let one = keeps_one segments c.loop-i.self.ends w.add.new.self.ends _ b i w.in-Some.s arm w.in-Some.ensures.unlike
          (sym w.in-Some.ensures.number) w.add.ensures.changed w.add.ensures.others was in
          rw w.self-is (keeps_same segments w.add.new.self.ends _ _ more one))
      | in_default w ↦
          (let none = keeps_none segments c.loop-i.self.ends _ b i arm (sym w.in_default.ensures.number) was in
          rw w.self-is (keeps_same segments c.loop-i.self.ends _ _ more none))
    ]
