-- Worlds are equal where each of their tests answers alike.
use Rattle.std.proofs.Common.{◌≡◌, ℕ}
use Rattle.rl_model.specs.World.{World}

pub same_world : (w v : World) → ((t s : ℕ) → w.occupies t s ≡ v.occupies t s) → ((t b from to : ℕ) → w.across t b from to ≡ v.across t b from to)
    → ((t s b : ℕ) → w.holds t s b ≡ v.holds t s b) → ((b t from to : ℕ) → w.locked b t from to ≡ v.locked b t from to) → ((b : ℕ) → w.points b ≡ v.points b)
    → ((t : ℕ) → w.made t ≡ v.made t) → w ≡ v
same_world w v occupies across holds locked points made =
    λ i. record {
      occupies = λ t s. occupies t s i;
      across = λ t b from to. across t b from to i;
      holds = λ t s b. holds t s b i;
      locked = λ b t from to. locked b t from to i;
      points = λ b. points b i;
      made = λ t. made t i;
    }
