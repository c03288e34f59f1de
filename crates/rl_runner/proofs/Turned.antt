-- One turn more.
use Rattle.std.proofs.Common.{◌≡◌, ℕ, ◌+◌, ◌-◌, List, All, ap, ◌∙◌, subst, arith}
use Rattle.rl_runner.specs.Turns.{raised, HasTurned}

raised_on : (turns k : ℕ) → raised (raised turns k) 1 ≡ raised turns (k + 1)
raised_on turns k = omega arith

pub turned_on : {T : Type 0} (number turns : T → ℕ) (home : T → T → Type 0) (on : (x y z : T) → home x y → home y z → home x z) (k : ℕ) (x y z : T)
    → HasTurned number turns home k x y → HasTurned number turns home 1 y z → HasTurned number turns home (k + 1) x z
turned_on number turns home on k x y z first then_one =
    record {
      number_is = then_one.number_is ∙ first.number_is;
      at_home = on x y z first.at_home then_one.at_home;
      turns_are = then_one.turns_are ∙ ap (λ (n : ℕ). raised n 1) first.turns_are ∙ raised_on (turns x) k;
    }

pub one_less : {T : Type 0} (ready : ℕ → T → Type 0) (all k : ℕ) (xs : List T) → All (ready ((all - k) - 1)) xs → All (ready (all - (k + 1))) xs
one_less ready all k xs are =
    let Ready : ℕ → Type 0 = λ n. All (ready n) xs in
    let same : (all - k) - 1 ≡ all - (k + 1) = omega arith in
    subst Ready same are
