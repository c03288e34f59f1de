-- The last state of the table, once every seat was taken in.
use Rattle.std.proofs.Common.{◌≡◌, ℕ, suc, ◌≤◌, ◌==◌, nat_lt, ◌&&◌, List, [], ◌∷◌, length, refl, sym, ap, ◌∙◌, subst}
use Rattle.std.proofs.Common.{inl, inr, if◌then◌else◌, Bool, true, false, eq-eqb, arith}
use Rattle.std.proofs.lemmas.Bool.{cases_eq, cases_lt, ne_eqb}
use Rattle.std.proofs.lemmas.Bool.Decides.{nat_tests}
use Rattle.atomic_table.specs.Table.{State, Final, Seen}
use Rattle.rl_base.specs.Numbers.{IsU32}
use Rattle.rl_base.specs.Tries.{AreFewTries}
use Rattle.rl_record.specs.declared.event.Event.{Event}
use Rattle.rl_record.specs.Merge.{history, IsMerge}
use Rattle.rl_tables.specs.declared.table.Tables.{Tables}
use Rattle.rl_tables.specs.Kept.{IsLine}
use Rattle.rl_steps.specs.Run.{state}
use Rattle.rl_steps.specs.State.{CoreState}
use Rattle.rl_rule.specs.declared.views.Kept.{Kept}
use Rattle.rl_rule.specs.declared.views.View.{View}
use Rattle.rl_rule.specs.declared.views.Role.TheVariants.{Root}
use Rattle.rl_rule.specs.Ruled.{AreKept, Places, times, times_taken, KnowsRoot, IsRuled}
use Rattle.rl_rule.specs.Closing.{kept_history, IsReplay}
use Rattle.rl_rule.specs.Histories.{sum_below}
use Rattle.rl_rule.proofs.Lists.{in_buckets, each_one}
use Rattle.rl_rule.proofs.Others.{as_role, few_in_log}
use Rattle.rl_rule.proofs.Known.{MergesAreRuns}

-- a node that is kept has its history there, and one that isn't has none
kept_is : (tables : Tables) (tries : ℕ) (log : List Event) (n : ℕ) (taken : List Kept) → AreKept tables tries log taken → times n taken ≡ 1 →
    kept_history taken n ≡ history n log
kept_is tables tries log n [] are once = absurd (omega arith)
kept_is tables tries log n (kept ∷ more) are once =
    elim (cases_eq kept.node.0 n) [
      | inl same ↦ rw (eq-eqb kept.node.0 n same) (are.0.history ∙ ap (λ (k : ℕ). history k log) same)
      | inr other ↦
          let later : times n (kept ∷ more) ≡ times n more = rw (ne_eqb kept.node.0 n other) refl in
          rw (ne_eqb kept.node.0 n other) (kept_is tables tries log n more are.1 (sym later ∙ once))
    ]

kept_none : (n : ℕ) (taken : List Kept) → times n taken ≡ 0 → kept_history taken n ≡ []
kept_none n [] none = refl
kept_none n (kept ∷ more) none =
    elim (cases_eq kept.node.0 n) [
      | inl same ↦
          let here : times n (kept ∷ more) ≡ suc (times n more) = rw (eq-eqb kept.node.0 n same) refl in
          absurd (omega arith)
      | inr other ↦
          let later : times n (kept ∷ more) ≡ times n more = rw (ne_eqb kept.node.0 n other) refl in
          rw (ne_eqb kept.node.0 n other) (kept_none n more (sym later ∙ none))
    ]

at_most_once : (places : Places) (n : ℕ) → times_taken places n ≤ 1
at_most_once places n = by (nat_lt n places.handed && (places.place n == 0))
  where
    by : (b : Bool) → ◌≤◌ (if b then 1 else 0) 1
    by true = omega arith
    by false = omega arith

pub none_past : (places : Places) (n : ℕ) → places.handed ≤ n → times_taken places n ≡ 0
none_past places n past =
    let not_below : nat_lt n places.handed ≡ false = grind (arith, nat_tests) in
    rw not_below refl

-- the log behind the last state of the table
pub record IsLog (tables : Tables) (tries : ℕ) (taken : List Kept) (words : List ℕ) (log : List Event) : Type 0 where
  pub line : IsLine tables
  pub few_tries : AreFewTries tries
  pub room : IsU32 (length log)
  pub replay : IsReplay tables tries taken words log

pub last_log : (tables : Tables) (tries id : ℕ) (view : View) (words : List ℕ) (slots : List (Unit {0})) → view.role ≡ Root →
    length view.taken ≡ view.handed → Final (Seen (IsRuled tables tries) id view) words slots → (log : List Event) × IsLog tables tries view.taken words log
last_log tables tries id view words slots role all final =
    let s : State (Unit {0}) View = final.0 in
    let ruled : IsRuled tables tries final.0 = final.1.0 in
    let knows : KnowsRoot tables tries ruled.log ruled.places id view =
    as_role tables tries ruled.log ruled.places id view Root role (ruled.each id view final.1.1) in
    let none : (n : ℕ) → ruled.places.handed ≤ n → times n view.taken ≡ 0 = λ n past. knows.taken n ∙ none_past ruled.places n past in
    let few : (n : ℕ) → times n view.taken ≤ 1 = λ n. subst (λ (k : ℕ). k ≤ 1) (sym (knows.taken n)) (at_most_once ruled.places n) in
    let sum : sum_below ruled.places.handed (λ n. times n view.taken) ≡ length view.taken =
    in_buckets (λ (kept : Kept). kept.node.0) ruled.places.handed view.taken none in
    let full : sum_below ruled.places.handed (λ n. times n view.taken) ≡ ruled.places.handed = sum ∙ (all ∙ knows.handed) in (
      ruled.log,
      record {
        line = ruled.line;
        few_tries = ruled.few_tries;
        room = omega (arith, few_in_log tables ruled.log ruled.places.handed ruled.line ruled.few ruled.unborn ruled.short);
        replay = record {
          run = ruled.run;
          histories = λ n.
              elim (cases_lt n ruled.places.handed) [
                | inl within ↦ sym (kept_is tables tries ruled.log n view.taken knows.kept
                    (each_one ruled.places.handed (λ m. times m view.taken) few full n within))
                | inr past ↦ ruled.unborn n past ∙ sym (kept_none n view.taken (none n past))
              ];
          words_are = sym final.2 ∙ ruled.words;
          kept = knows.kept;
        };
      },
    )

-- the same of the merge of the histories
kept_again : (tables : Tables) (tries : ℕ) (log merged : List Event) (taken : List Kept) → ((n : ℕ) → history n merged ≡ history n log) →
    state tables tries merged ≡ state tables tries log → AreKept tables tries log taken → AreKept tables tries merged taken
kept_again tables tries log merged [] parts same are = tt
kept_again tables tries log merged (kept ∷ more) parts same are = (
  record { history = are.0.history ∙ sym (parts kept.node.0); mind = are.0.mind ∙ ap (λ (c : CoreState). c.minds kept.node.0) (sym same) },
  kept_again tables tries log merged more parts same are.1,
)

pub merged_replay : MergesAreRuns → (tables : Tables) (tries : ℕ) (taken : List Kept) (words : List ℕ) (log merged : List Event) →
    IsLog tables tries taken words log → IsMerge (kept_history taken) merged → IsReplay tables tries taken words merged
merged_replay law tables tries taken words log merged is merge =
    let same : (n : ℕ) → kept_history taken n ≡ history n log = λ n. sym (is.replay.histories n) in
    let of_log : IsMerge (λ n. history n log) merged = record { falls = merge.falls; parts = λ n. merge.parts n ∙ same n } in
    let run = law tables tries log merged is.line is.few_tries is.room is.replay.run of_log in
    record {
      run = run.0;
      histories = merge.parts;
      words_are = is.replay.words_are ∙ ap (λ (c : CoreState). c.words) (sym run.1);
      kept = kept_again tables tries log merged taken (λ n. merge.parts n ∙ same n) run.1 is.replay.kept;
    }
