use Rattle.std.proofs.Common.{None, get_or, sym, ◌∙◌, arith}
use Rattle.std.proofs.lemmas.Bool.{false≢true}
use Rattle.std.proofs.lemmas.Option.{slice_get-get_or}
use Rattle.rl_jam.proofs.Refused.{wait_from, not_spent, spent_within}
use Rattle.rl_jam.proofs.refusals.wait_of.Goals as goal
use Rattle.rl_jam.proofs.refusals.wait_of.Goals.{else-t-last-via-then-t-last+else-is_spent, else-t-last-via-else-t-last}

pub returns-then-is_spent : goal.returns-then-is_spent
returns-then-is_spent c =
    wait_from c.args.report.now c.args.t.0 (get_or c.args.last.now c.args.t.0 None) (c.is_spent.ensures.0 c.if-is_spent.true)
    (c.requires.last c.args.t.0 (get_or c.args.last.now c.args.t.0 None) (slice_get-get_or c.args.last.now c.args.t.0 None (omega arith)))

pub returns-else-t-last : goal.returns-else-t-last
returns-else-t-last c =
    elim c.else-t-last.branch [
      | else-t-last-via-then-t-last+else-is_spent w ↦
          not_spent c.args.report.now c.args.t.0 (λ spent. false≢true (sym w.if-is_spent.false ∙ w.is_spent.ensures.1 spent))
      | else-t-last-via-else-t-last w ↦
          not_spent c.args.report.now c.args.t.0 (λ spent.
          let within = spent_within c.args.report.now c.args.t.0 spent in
          let out = w.if-t-last.false in
          let same = c.requires.each in
          omega arith)
    ]
