use Rattle.std.proofs.Common.{ℕ, List, Option, length, ap, subst, sym, ◌∙◌}
use Rattle.rl_plan.specs.Searching.{AreLevels}
use Rattle.rl_plan.proofs.Searched.{put_back, found}
use Rattle.rl_plan.proofs.search.levels_to.Goals as goal

pub returns : goal.returns
returns c =
    let levels = c.in_ok-levels.levels in
    subst (λ (k : List (Option ℕ)). AreLevels c.args.net.now c.args.to k)
    (sym (put_back levels.len levels.items c.search.new.levels levels.ok.0 (c.search.auto.levels ∙ ap length c.as_mut_slice.ensures.value)))
    (found c.args.net.now c.args.to c.search.ensures.0 c.search.new.levels c.search.ensures.1)
