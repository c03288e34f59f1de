use Rattle.std.proofs.Common.{sym, ap, not, ◌∙◌}
use Rattle.std.proofs.lemmas.Bool.{false≢true, true≢false}
use Rattle.rl_domain.proofs.Rested.{keeps_iff}
use Rattle.rl_domain.proofs.world.World.keeps_only.Goals as goal

pub returns-then-not-is_lock_of : goal.returns-then-not-is_lock_of
returns-then-not-is_lock_of c =
    let found = keeps_iff c.args.net.now c.args.self.now c.args.t.0 c.args.s.0 c.args.b.0 c.state-state.result c.accepted.ensures c.requires.fits
    c.requires.there c.state-state.ensures in (
      λ is. found.0 (sym c.is_lock_of.ensures ∙ c.if-not-is_lock_of.true, c.keeps_arms.ensures.0 is),
      λ keeps. c.keeps_arms.ensures.1 (found.1 keeps).1,
    )

pub returns-else-not-is_lock_of : goal.returns-else-not-is_lock_of
returns-else-not-is_lock_of c =
    let found = keeps_iff c.args.net.now c.args.self.now c.args.t.0 c.args.s.0 c.args.b.0 c.state-state.result c.accepted.ensures c.requires.fits
    c.requires.there c.state-state.ensures in (
      λ is. absurd (false≢true (sym (ap not c.if-not-is_lock_of.false) ∙ is)),
      λ keeps. absurd (true≢false (sym c.if-not-is_lock_of.false ∙ c.is_lock_of.ensures ∙ (found.1 keeps).0)),
    )
