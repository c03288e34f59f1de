use Rattle.std.proofs.Common.{◌≡◌, true, sym, ◌∙◌}
use Rattle.rl_plan.proofs.Around.{ends_there, rises_from}
use Rattle.rl_plan.proofs.certificate.rises_around.Goals as goal

pub rises_at-requires : goal.rises_at-requires
rises_at-requires c =
    record { there = ((ends_there c.args.net.now c.args.s.0 c.ends.result c.accepted.ensures c.ends.ensures).0, c.requires.there) }

pub rises_at-requires-then-rises_at : goal.rises_at-requires-then-rises_at
rises_at-requires-then-rises_at c =
    record { there = ((ends_there c.args.net.now c.args.s.0 c.ends.result c.accepted.ensures c.ends.ensures).1, c.requires.there) }

pub returns-then-rises_at : goal.returns-then-rises_at
returns-then-rises_at c =
    let level = sym c.level_of.ensures ∙ c.in-Some.is in (
      λ yes.
          rises_from c.args.net.now c.args.levels.now c.args.s.0 c.in-Some.n c.ends.result c.ends.ensures level
          (c.rises_at.ensures.0 c.if-rises_at.true) (c.rises_at-then-rises_at.ensures.0 yes),
      λ all. c.rises_at-then-rises_at.ensures.1 (λ r near. all c.ends.result.1.0.0 r c.in-Some.n near level),
    )

pub returns-else-rises_at : goal.returns-else-rises_at
returns-else-rises_at c =
    let level = sym c.level_of.ensures ∙ c.in-Some.is in (
      λ yes. absurd (let no : c.rises_at.result ≡ true = yes in cc),
      λ all. c.rises_at.ensures.1 (λ r near. all c.ends.result.0.0.0 r c.in-Some.n near level),
    )
