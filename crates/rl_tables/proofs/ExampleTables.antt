-- The tables that were worked out by hand are those of the network.
use Rattle.std.proofs.Common.{◌≡◌, ℕ, zero, suc, [], ◌∷◌, slice_get, Some, refl, subst, arith, codes}
use Rattle.rl_base.specs.declared.kind.Side.TheVariants.{Right}
use Rattle.rl_drafts.specs.Drafts.{network_of}
use Rattle.rl_drafts.specs.Examples.{one_train, fork}
use Rattle.rl_tables.specs.Tables.{segment_number, IsListOf, IsBoxTable, IsStepRow, IsTrainTable, AreTablesOf}
use Rattle.rl_tables.specs.Examples.{west, joint, east, only_step, only_train, one_train_tables, point}
use Rattle.rl_model.specs.Network.{segment_at}

-- what belongs at each of the first three places
three : {A : Type 0} (P : ℕ → A → Type 0) (a b c : A) → P 0 a → P 1 b → P 2 c → IsListOf 3 P (a ∷ b ∷ c ∷ [])
three {A = A} P a b c at0 at1 at2 = record { length_is = refl; each = each }
  where
    each : (k : ℕ) (x : A) → slice_get (a ∷ b ∷ c ∷ []) k ≡ Some x → P k x
    each zero x is = let same : a ≡ x = cc in subst (P 0) same at0
    each (suc zero) x is = let same : b ≡ x = cc in subst (P 1) same at1
    each (suc (suc zero)) x is = let same : c ≡ x = cc in subst (P 2) same at2
    each (suc (suc (suc k))) x is = absurd (cc)

alone : {A : Type 0} (P : ℕ → A → Type 0) (a : A) → P 0 a → IsListOf 1 P (a ∷ [])
alone {A = A} P a at0 = record { length_is = refl; each = each }
  where
    each : (k : ℕ) (x : A) → slice_get (a ∷ []) k ≡ Some x → P k x
    each zero x is = let same : a ≡ x = cc in subst (P 0) same at0
    each (suc k) x is = absurd (cc)

west_arms : (i : ℕ) → segment_number west i ≡ segment_at (network_of one_train) 0 i
west_arms zero = refl
west_arms (suc zero) = refl
west_arms (suc (suc zero)) = refl
west_arms (suc (suc (suc zero))) = refl
west_arms (suc (suc (suc (suc i)))) = refl

joint_arms : (i : ℕ) → segment_number joint i ≡ segment_at (network_of one_train) 1 i
joint_arms zero = refl
joint_arms (suc zero) = refl
joint_arms (suc (suc zero)) = refl
joint_arms (suc (suc (suc zero))) = refl
joint_arms (suc (suc (suc (suc i)))) = refl

east_arms : (i : ℕ) → segment_number east i ≡ segment_at (network_of one_train) 2 i
east_arms zero = refl
east_arms (suc zero) = refl
east_arms (suc (suc zero)) = refl
east_arms (suc (suc (suc zero))) = refl
east_arms (suc (suc (suc (suc i)))) = refl

is_step : IsStepRow (network_of one_train) 0 0 only_step
is_step =
    record {
      step = record { from = refl; through = refl; to = refl };
      x = refl;
      y = refl;
      far = record { apart = λ e. omega arith; there = refl };
      back = record { apart = λ e. omega arith; there = refl };
      next = λ b2 s3 after. absurd (let to = after.to in cc);
    }

pub example_tables : AreTablesOf (network_of one_train) one_train_tables
example_tables =
    record {
      boxes = three (IsBoxTable (network_of one_train)) west joint east
          (record { number = refl; kind = refl; side = refl; segments = west_arms })
          (record { number = refl; kind = refl; side = refl; segments = joint_arms })
          (record { number = refl; kind = refl; side = refl; segments = east_arms });
      trains = alone (IsTrainTable (network_of one_train)) only_train
          (record { number = refl; first = refl; rows = alone (IsStepRow (network_of one_train) 0) only_step is_step });
    }

point_arms : (i : ℕ) → segment_number point i ≡ segment_at (network_of (fork (Some Right) (codes "S" ∷ codes "P" ∷ codes "R" ∷ []))) 1 i
point_arms zero = refl
point_arms (suc zero) = refl
point_arms (suc (suc zero)) = refl
point_arms (suc (suc (suc zero))) = refl
point_arms (suc (suc (suc (suc i)))) = refl

pub example_point : IsBoxTable (network_of (fork (Some Right) (codes "S" ∷ codes "P" ∷ codes "R" ∷ []))) 1 point
example_point = record { number = refl; kind = refl; side = refl; segments = point_arms }
