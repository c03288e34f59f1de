-- The eight moves of one train on the line of two segments are guarded, and so a safe run.
use Rattle.std.proofs.Common.{◌≡◌, ℕ, zero, suc, Bool, true, false, subst, refl, sym, arith}
use Rattle.std.proofs.lemmas.Bool.{and_right, and_parts, false≢true, eqb-true}
use Rattle.rl_model.specs.World.{start, starts_on}
use Rattle.rl_model.specs.Moves.{holds_ends}
use Rattle.rl_model.specs.Safety.{Guarded, IsKept, IsSafeRun}
use Rattle.rl_drafts.specs.Drafts.{network_of}
use Rattle.rl_drafts.specs.Examples.{one_train, eight_moves}
use Rattle.rl_model.proofs.Kept.{safe_from}

-- only train 0 starts anywhere
only_one : (t s : ℕ) → starts_on (network_of one_train) t s ≡ true → t ≡ 0
only_one zero s h = refl
only_one (suc t) s h = absurd (false≢true h)

-- and only on segment 0
only_there : (t s : ℕ) → starts_on (network_of one_train) t s ≡ true → s ≡ 0
only_there zero s h = sym (eqb-true 0 s h)
only_there (suc t) s h = absurd (false≢true h)

kept_at_start : IsKept (network_of one_train) (start (network_of one_train))
kept_at_start =
    record {
      one_holder = λ t u s b h k. let one = only_one t s (and_parts _ _ h).0 in let other = only_one u s (and_parts _ _ k).0 in omega arith;
      one_lock = λ t u b f g f2 g2 h k. absurd (false≢true h);
      held = λ t s h. held t s (only_one t s h) (only_there t s h);
      has_lock = λ t b f g h. absurd (false≢true h);
      connected = λ t b f g h. absurd (false≢true h);
    }
  where
    held : (t s : ℕ) → t ≡ 0 → s ≡ 0 → holds_ends (start (network_of one_train)) (network_of one_train) t s ≡ true
    held t s a b =
        subst (λ x. holds_ends (start (network_of one_train)) (network_of one_train) x s ≡ true) (sym a)
        (subst (λ y. holds_ends (start (network_of one_train)) (network_of one_train) 0 y ≡ true) (sym b) refl)

-- nobody by the test at 0 and above
nobody : (test : ℕ → Bool) → test 0 ≡ false → ((u : ℕ) → test (suc u) ≡ false) → (u : ℕ) → test u ≡ false
nobody test here above zero = here
nobody test here above (suc u) = above u

guarded : Guarded (network_of one_train) eight_moves
guarded = (
  (refl, (nobody _ refl (λ u. refl), tt)),
  (
    (refl, (nobody _ refl (λ u. and_right _ _ refl), tt)),
    (
      ((λ e. omega arith, refl, refl), ((λ u f g. refl), ((refl, refl), (refl, tt)))),
      (
        ((omega arith, record { from = refl; through = refl; to = refl }), ((refl, (λ b f g. refl)), (refl, (refl, (refl, tt))))),
        (
          ((1, 1, refl), tt),
          (
            ((0, 1, refl), ((λ f g. and_right _ _ refl), tt)),
            (
              (refl, (refl, (refl, tt))),
              ((refl, (refl, (refl, tt))), tt),
            ),
          ),
        ),
      ),
    ),
  ),
)

pub example_run : IsSafeRun (network_of one_train) eight_moves
example_run = record { guarded = guarded; safe = safe_from (network_of one_train) (start (network_of one_train)) eight_moves kept_at_start guarded }
