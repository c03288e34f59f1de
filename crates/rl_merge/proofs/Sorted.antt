-- Every run, sorted by stamps and nodes, is a run that leads to the same state.
use Rattle.std.proofs.Common.{◌≡◌, ℕ, suc, ◌==◌, cond, List, [], ◌∷◌, length, refl, sym, ap, ◌∙◌, subst, arith}
use Rattle.rl_base.specs.Numbers.{IsU32}
use Rattle.rl_base.specs.Tries.{AreFewTries}
use Rattle.rl_record.specs.declared.event.Event.{Event}
use Rattle.rl_record.specs.Merge.{history, IsMerge}
use Rattle.rl_tables.specs.declared.table.Tables.{Tables}
use Rattle.rl_tables.specs.Kept.{IsLine}
use Rattle.rl_steps.specs.State.{CoreState, after}
use Rattle.rl_steps.specs.Run.{EventFits, IsRun, state}
use Rattle.rl_steps.proofs.Made.{fits_made}
use Rattle.rl_merge.proofs.Later.{Laws}
use Rattle.rl_merge.proofs.Insertion.{IsPlaced, insert}

pub record IsSorted (tables : Tables) (tries : ℕ) (log all : List Event) : Type 0 where
  pub run : IsRun tables tries all
  pub state_is : state tables tries all ≡ state tables tries log
  pub merge : IsMerge (λ n. history n log) all
  pub size : length all ≡ length log

one_more : (tables : Tables) (tries : ℕ) (e : Event) (log all more : List Event) → IsSorted tables tries log all → IsPlaced tables tries e all more
    → IsSorted tables tries (e ∷ log) more
one_more tables tries e log all more sorted placed =
    let Then : CoreState → CoreState = λ s. after tables s e in
    record {
      run = placed.run;
      state_is = placed.state_is ∙ ap Then sorted.state_is;
      merge = record {
        falls = placed.falls;
        parts = λ n. let With : List Event → List Event = λ h. cond (e.node.0 == n) (e ∷ h) h in placed.parts n ∙ ap With (sorted.merge.parts n);
      };
      size = placed.size ∙ ap suc sorted.size;
    }

pub sort : Laws → (tables : Tables) (tries : ℕ) → IsLine tables → AreFewTries tries → (log : List Event) → IsRun tables tries log → IsU32 (length log)
    → (all : List Event) × IsSorted tables tries log all
sort laws tables tries line few [] run room =
    ([], record { run = tt; state_is = refl; merge = record { falls = tt; parts = λ n. refl }; size = refl })
sort laws tables tries line few (e ∷ log) run room =
    let (all, sorted) = sort laws tables tries line few log run.0 (omega arith) in
    let FitsAt : CoreState → Type 0 = λ s. EventFits tables s e in
    let made = fits_made tables (state tables tries all) e (subst FitsAt (sym sorted.state_is) run.1) in
    let (more, placed) = insert laws tables tries line few e all sorted.merge.falls sorted.run made (omega (arith, sorted.size)) in
    (more, one_more tables tries e log all more sorted placed)

pub merged_run : Laws → ((h : ℕ → List Event) (a b : List Event) → IsMerge h a → IsMerge h b → a ≡ b)
    → (tables : Tables) (tries : ℕ) (log merged : List Event) → IsLine tables → AreFewTries tries → IsU32 (length log)
    → IsRun tables tries log → IsMerge (λ n. history n log) merged
    → IsRun tables tries merged × (state tables tries merged ≡ state tables tries log)
merged_run laws only tables tries log merged line few room run merge =
    let found = sort laws tables tries line few log run room in
    let Led : List Event → Type 0 = λ l. IsRun tables tries l × (state tables tries l ≡ state tables tries log) in
    subst Led (only (λ n. history n log) found.0 merged found.1.merge merge) (found.1.run, found.1.state_is)
