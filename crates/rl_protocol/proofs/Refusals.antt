-- Refusals counted: the Refuse and Bar moves of a train are those that it has heard, and the one in its mailbox.
use Rattle.std.proofs.Common.{◌≡◌, ℕ, ◌+◌, Bool, cond, List, [], ◌∷◌, ◌++◌, refl, sym, ap, ◌∙◌, arith}
use Rattle.std.specs.Prelude.{option_to_list, count_by}
use Rattle.std.proofs.lemmas.List.Sums.{sum_by-append}
use Rattle.std.proofs.lemmas.Bool.Decides.{nat_tests}
use Rattle.rl_model.specs.declared.moves.Move.{Move}
use Rattle.rl_model.specs.Reports.{is_refusal, refused_in}
use Rattle.rl_protocol.specs.Line.{Line, IsConsistent}
use Rattle.rl_protocol.specs.State.{State}
use Rattle.rl_protocol.specs.Steps.{Step, StepFits, next}
use Rattle.rl_protocol.specs.StepMoves.{move_of}
use Rattle.rl_protocol.specs.Runs.{state_after, IsStepRun, moves_of}
use Rattle.rl_protocol.specs.Refusals.{refusals_said}
use Rattle.rl_protocol.proofs.Known.{Known}
use Rattle.rl_protocol.proofs.Agreed.{agrees, known_of}

-- each step says as many refusals as its move counts
step_refuses : (line : Line) (s : State) (step : Step) (t : ℕ) → StepFits line s step → Known line s step
    → refusals_said (next line s step) t ≡ count_by (is_refusal t) (option_to_list (move_of line step)) + refusals_said s t
step_refuses line s step t fits known = grind (arith, nat_tests)

-- a count over a list with more at its end
count_more : (p : Move → Bool) (xs ys : List Move) → count_by p (xs ++ ys) ≡ count_by p ys + count_by p xs
count_more p xs ys = sum_by-append (λ x. cond (p x) 1 0) xs ys ∙ add_comm (count_by p xs) (count_by p ys)
  where
    add_comm : (a b : ℕ) → a + b ≡ b + a
    add_comm a b = omega arith

pub refused_is : (line : Line) (tries : ℕ) (steps : List Step) (t : ℕ) → IsConsistent line → IsStepRun line tries steps
    → refused_in (moves_of line steps) t ≡ refusals_said (state_after line tries steps) t
refused_is line tries [] t laws run = refl
refused_is line tries (step ∷ steps) t laws run =
    let s = state_after line tries steps in
    let before = refused_is line tries steps t laws run.0 in
    count_more (is_refusal t) (moves_of line steps) (option_to_list (move_of line step))
    ∙ ap (λ n. count_by (is_refusal t) (option_to_list (move_of line step)) + n) before
    ∙ sym (step_refuses line s step t run.1 (known_of line tries s step (agrees line tries steps laws run.0) run.1))
