use Rattle.std.proofs.Common.{ℕ, subst, inl, inr}
use Rattle.rl_plan.specs.Walks.{AreNeighbours}
use Rattle.rl_plan.proofs.Around.{ends_there, between_ends}
use Rattle.rl_plan.proofs.Marked.{grown-then, marked-kept}
use Rattle.rl_plan.proofs.marking.mark_around.Goals as goal

pub mark_through-first-requires-clause-there : goal.mark_through-first-requires-clause-there
mark_through-first-requires-clause-there c =
    ((ends_there c.args.net.now c.args.s.0 c.ends.result c.accepted.ensures c.ends.ensures).0, c.requires.there)

pub mark_through-second-requires-clause-there : goal.mark_through-second-requires-clause-there
mark_through-second-requires-clause-there c =
    ((ends_there c.args.net.now c.args.s.0 c.ends.result c.accepted.ensures c.ends.ensures).1, c.requires.there)

pub returns : goal.returns
returns c = record {
  grown = grown-then c.args.net.now c.args.n c.mark_through-first.result c.mark_through-second.result _ _ _ c.mark_through-first.ensures.grown
      c.mark_through-second.ensures.grown;
  marks = λ b r near.
      elim (between_ends c.args.net.now b c.args.s.0 r c.ends.result c.ends.ensures near) [
        | inl at ↦
            marked-kept c.args.net.now c.args.n r _ _ c.mark_through-second.ensures.grown.grows
            (c.mark_through-first.ensures.marks r (subst (λ (k : ℕ). AreNeighbours c.args.net.now k c.args.s.0 r) at near))
        | inr at ↦ c.mark_through-second.ensures.marks r (subst (λ (k : ℕ). AreNeighbours c.args.net.now k c.args.s.0 r) at near)
      ];
}
