-- The steps that a train has made in the world are the Leave moves that were made of it.
use Rattle.std.proofs.Common.{◌≡◌, ℕ, ◌+◌, cond, List, [], ◌∷◌, ap, ◌∙◌, arith}
use Rattle.std.specs.Prelude.{count_by, fold}
use Rattle.std.proofs.lemmas.List.Sums.{sum_by-append}
use Rattle.std.proofs.lemmas.Bool.Decides.{nat_tests}
use Rattle.rl_model.specs.declared.moves.Move.{Move}
use Rattle.rl_model.specs.World.{World}
use Rattle.rl_model.specs.Moves.{after}
use Rattle.rl_model.specs.Reports.{is_leave}

-- a move makes a step more where it is a Leave of the train
made_more : (w : World) (m : Move) (t : ℕ) → (after w m).made t ≡ w.made t + cond (is_leave t m) 1 0
made_more w m t = grind (arith, nat_tests)

-- a count over a list with one more at its head
count_one : (m : Move) (ms : List Move) (t : ℕ) → count_by (is_leave t) (m ∷ ms) ≡ cond (is_leave t m) 1 0 + count_by (is_leave t) ms
count_one m ms t = sum_by-append (λ x. cond (is_leave t x) 1 0) (m ∷ []) ms ∙ ap (λ n. n + count_by (is_leave t) ms) (omega arith)

pub made_after : (w : World) (ms : List Move) (t : ℕ) → (fold after w ms).made t ≡ w.made t + count_by (is_leave t) ms
made_after w [] t = omega arith
made_after w (m ∷ ms) t = omega (arith, made_after (after w m) ms t, made_more w m t, count_one m ms t)
