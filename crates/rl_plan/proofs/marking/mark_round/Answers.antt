use Rattle.std.proofs.Common.{ℕ, ◌<◌, ◌≤◌, length, arith}
use borrow.Author.Count.{below_more}
use Rattle.rl_plan.specs.Marking.{MarksFrom}
use Rattle.rl_plan.proofs.BothWays.{neighbours-swap, neighbour_there}
use Rattle.rl_plan.proofs.Marked.{grown-then, marks-kept, marks-later}
use Rattle.rl_plan.proofs.marking.mark_round.Goals as goal

pub loop-s-preserved : goal.loop-s-preserved
loop-s-preserved c = (
  grown-then c.args.net.now c.args.n _ _ _ _ _ c.loop-s.invariant.0 c.mark_from-new.ensures.grown,
  below_more (λ (r : ℕ). MarksFrom c.args.net.now c.args.n c.args.levels.now c.mark_from-new.new.levels r) c.loop-s.s
      (λ r here. marks-kept c.args.net.now c.args.n r _ _ _ c.mark_from-new.ensures.grown.grows (c.loop-s.invariant.1 r here))
      (marks-later c.args.net.now c.args.n c.loop-s.s _ _ _ c.loop-s.invariant.0.grows c.mark_from-new.ensures.marks),
)

pub returns-clause-marks : goal.returns-clause-marks
returns-clause-marks c = λ s b r level near.
    let there = neighbour_there c.args.net.now b r s (neighbours-swap c.args.net.now b s r near) in
    let all : length c.args.net.now.segments ≤ c.loop-s.s = omega arith in
    let here : s < c.loop-s.s = omega arith in
    c.loop-s.invariant.1 s here b r level near
