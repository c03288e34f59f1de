use Rattle.std.proofs.Common.{Bool, cond, ◌%◌, Some, option_map, ap, sym, ◌∙◌}
use Rattle.std.proofs.lemmas.Bool.{eq-eqb, ne_eqb}
use Rattle.rl_ends.proofs.EndLists.{text_in, text_at}
use Rattle.rl_ends.proofs.rules_21_to_23.text_of_end.Goals as goal

pub returns-then-k-eq0 : goal.returns-then-k-eq0
returns-then-k-eq0 c =
    let g = c.at-segment.result.now in
    let k = c.args.k in
    text_at c.args.draft.now.segments k
    ∙ (ap (option_map (text_in k)) c.at-segment.ensures.there
    ∙ ap Some (ap (λ (b : Bool). cond b g.first g.second) (eq-eqb (k % 2) 0 c.if-k-eq0.true) ∙ sym c.bytes.ensures))

pub returns-else-k-eq0 : goal.returns-else-k-eq0
returns-else-k-eq0 c =
    let g = c.at-segment.result.now in
    let k = c.args.k in
    text_at c.args.draft.now.segments k
    ∙ (ap (option_map (text_in k)) c.at-segment.ensures.there
    ∙ ap Some (ap (λ (b : Bool). cond b g.first g.second) (ne_eqb (k % 2) 0 c.if-k-eq0.false) ∙ sym c.bytes-else-k-eq0.ensures))
