use Rattle.std.proofs.Common.{refl, sym, ap, ◌∙◌, arith, below_more, is_some}
use Rattle.std.proofs.lemmas.Bool.{false≢true, true≢false}
use Rattle.rl_domain.proofs.Meanings.{none_at}
use Rattle.rl_domain.proofs.Rested.{rests_from, rests_off}
use Rattle.rl_domain.proofs.world.World.rests.Goals as goal

pub returns-then-is_some : goal.returns-then-is_some
returns-then-is_some c = (
  λ is. absurd (false≢true is),
  λ rests.
      let off = rests_off _ _ _ _ c.standing-standing.ensures rests in
      absurd (true≢false (sym c.if-is_some.true ∙ c.is_some.ensures ∙ ap is_some off)),
)

pub loop-k-preserved : goal.loop-k-preserved
loop-k-preserved c = below_more _ _ c.loop-k.invariant (c.keeps_only.ensures.0 c.if-not-keeps_only.false)

pub returns : goal.returns
returns c = (
  λ is.
      rests_from c.args.net.now c.args.self.now c.args.t.0 c.loop-k.k c.standing-standing.result c.boxes-k-end.ensures.network c.requires.fits
      c.standing-standing.ensures
      (none_at _ (sym c.is_some.ensures ∙ c.if-is_some.false)) (omega (arith, c.boxes-k-end.ensures.count, c.loop-k-test.false)) c.loop-k.invariant,
  λ rests. refl,
)
