use Rattle.std.proofs.Common.{ℕ, Some, option_map, option_and_then, ap, sym, ◌∙◌, arith}
use Rattle.std.proofs.lemmas.List.{length-map}
use Rattle.rl_drafts.specs.Drafts.{number_in, end_at}
use Rattle.rl_ends.specs.EndNames.{EndName}
use Rattle.rl_ends.specs.EndsDrafts.{box_names}
use Rattle.rl_ends.specs.declared.ends_draft.EndsBox.{EndsBox}
use Rattle.rl_ends.proofs.EndLists.{named_arm_at}
use Rattle.rl_ends.proofs.Found.{number_below}
use Rattle.rl_ends.proofs.rules_21_to_23.arm_of_end.Goals as goal

pub overflow_cast-result : goal.overflow_cast-result
overflow_cast-result c =
    let d = c.args.draft.now in
    let below = number_below (box_names d) c.in_ok-name.name.now c.in_ok-b.b (c.in_ok-b.ensures (box_names d) c.requires.numbers) in
    let count = length-map d.boxes (λ (x : EndsBox). x.name) in
    omega arith

pub returns : goal.returns
returns c =
    let d = c.args.draft.now in
    let text = c.text_of_end.result.now in
    named_arm_at d c.args.k text c.text_of_end.ensures
    ∙ ap Some (ap (option_and_then (λ (e : EndName). option_map (λ (b : ℕ). end_at b e.arm) (number_in (box_names d) e.name))) c.in_ok-name.ensures
    ∙ ap (option_map (λ (b : ℕ). end_at b c.in_ok-name.arm)) (sym (c.in_ok-b.ensures (box_names d) c.requires.numbers)))
