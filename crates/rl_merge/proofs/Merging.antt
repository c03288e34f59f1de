-- Histories that are chained by node have a merge: each is put into the list of those before it, event for event.
use Rattle.std.proofs.Common.{◌≡◌, ◌≢◌, ℕ, zero, suc, ◌<◌, ◌≤◌, ◌⊎◌, inl, inr, List, [], ◌∷◌, refl, sym, ap, ◌∙◌, subst, arith}
use Rattle.std.proofs.lemmas.Bool.{cases_eq}
use Rattle.std.proofs.lemmas.Bool.Decides.{leb_tells}
use Rattle.rl_record.specs.declared.event.Event.{Event}
use Rattle.rl_record.specs.Merge.{history, IsBefore, IsAfterAll, Falls, IsMerge}
use Rattle.rl_record.proofs.Members.{Has, has_in_history}
use Rattle.rl_tables.specs.declared.table.Tables.{Tables}
use Rattle.rl_steps.specs.State.{next_stamp}
use Rattle.rl_merge.specs.Chains.{clock_left, IsNodeChain, AreChained}
use Rattle.rl_merge.proofs.Chained.{own_history, other_history}
use Rattle.rl_merge.proofs.Insertion.{order, after_more, parts_past}

-- no stamp of a chain is above its last one
pub below_clock : (tables : Tables) (tries n : ℕ) (h : List Event) → IsNodeChain tables tries n h → (e : Event) → Has h e → e.stamp ≤ clock_left h
below_clock tables tries n [] chain e there = absurd there
below_clock tables tries n (f ∷ h) chain e (inl is) = let stamp : f.stamp ≡ e.stamp = ap (λ (x : Event). x.stamp) is in omega arith
below_clock tables tries n (f ∷ h) chain e (inr there) =
    let low : e.stamp ≤ clock_left h = below_clock tables tries n h chain.0 e there in
    let stamp : f.stamp ≡ next_stamp (clock_left h) f.was = chain.1.stamp in
    omega arith

-- the list is the sorted list before it with the event in its place
record IsPut (e : Event) (log all : List Event) : Type 0 where
  pub falls : Falls all
  pub behind : (x : Event) → IsAfterAll x log → IsBefore e x → IsAfterAll x all
  pub parts : (n : ℕ) → history n all ≡ history n (e ∷ log)

-- an event before which all of its node's come isn't of the node of one that comes later
not_own : (f e : Event) → e.stamp ≤ f.stamp → (f.node.0 ≡ e.node.0 → f.stamp < e.stamp) → e.node.0 ≢ f.node.0
not_own f e no_later below same = let low : f.stamp < e.stamp = below (sym same) in omega arith

put : (e : Event) (log : List Event) → Falls log → ((f : Event) → Has log f → f.node.0 ≡ e.node.0 → f.stamp < e.stamp)
    → (all : List Event) × IsPut e log all
put e [] falls below = (e ∷ [], record { falls = (tt, tt); behind = λ x after under. (under, tt); parts = λ n. refl })
put e (f ∷ log) falls below =
    elim (order f e) [
      | inl before ↦ (
        e ∷ f ∷ log,
        record {
          falls = ((before, after_more e f log falls.0 before), falls);
          behind = λ x after under. (under, after);
          parts = λ n. refl;
        },
      )
      | inr no_later ↦ (
          let other : e.node.0 ≢ f.node.0 = not_own f e no_later.0 (below f (inl refl)) in
          let (all, is) = put e log falls.1 (λ g there. below g (inr there)) in (
            f ∷ all,
            record {
              falls = (is.behind f falls.0 (no_later.1 other), is.falls);
              behind = λ x after under. (after.0, is.behind x after.1 under);
              parts = λ n. parts_past e f log all n other (is.parts n);
            },
          ))
    ]

-- the sorted list, in which node n has no event, with the history of node n
record IsPutAll (n : ℕ) (h log all : List Event) : Type 0 where
  pub falls : Falls all
  pub own : history n all ≡ h
  pub others : (m : ℕ) → m ≢ n → history m all ≡ history m log

one_put : (tables : Tables) (tries n : ℕ) (e : Event) (h log all more : List Event) → IsNodeChain tables tries n (e ∷ h) → IsPutAll n h log all
    → IsPut e all more → IsPutAll n (e ∷ h) log more
one_put tables tries n e h log all more chain are is =
    record {
      falls = is.falls;
      own = is.parts n ∙ own_history e all n (sym chain.1.node) ∙ ap (λ (l : List Event). e ∷ l) are.own;
      others = λ m other. is.parts m ∙ other_history e all m (λ same. other (same ∙ chain.1.node)) ∙ are.others m other;
    }

later : (tables : Tables) (tries n : ℕ) (e : Event) (h all : List Event) → IsNodeChain tables tries n (e ∷ h) → history n all ≡ h
    → (f : Event) → Has all f → f.node.0 ≡ e.node.0 → f.stamp < e.stamp
later tables tries n e h all chain own f there same =
    let In : List Event → Type 0 = λ l. Has l f in
    let Own : ℕ → Type 0 = λ k. Has (history k all) f in
    let here : Has h f = subst In own (subst Own (same ∙ chain.1.node) (has_in_history all f there)) in
    let low : f.stamp ≤ clock_left h = below_clock tables tries n h chain.0 f here in
    let stamp : e.stamp ≡ next_stamp (clock_left h) e.was = chain.1.stamp in
    omega arith

put_all : (tables : Tables) (tries n : ℕ) (h log : List Event) → IsNodeChain tables tries n h → Falls log → history n log ≡ []
    → (all : List Event) × IsPutAll n h log all
put_all tables tries n [] log chain falls none = (log, record { falls = falls; own = none; others = λ m other. refl })
put_all tables tries n (e ∷ h) log chain falls none =
    let (all, are) = put_all tables tries n h log chain.0 falls none in
    let (more, is) = put e all are.falls (later tables tries n e h all chain are.own) in
    (more, one_put tables tries n e h log all more chain are is)

-- the merge of the histories of the first nodes, so many
record IsMergeBelow (h : ℕ → List Event) (k : ℕ) (all : List Event) : Type 0 where
  pub falls : Falls all
  pub parts : (n : ℕ) → n < k → history n all ≡ h n
  pub past : (n : ℕ) → k ≤ n → history n all ≡ []

one_merged : (h : ℕ → List Event) (k : ℕ) (log all : List Event) → IsMergeBelow h k log → IsPutAll k (h k) log all → IsMergeBelow h (suc k) all
one_merged h k log all is are =
    record {
      falls = are.falls;
      parts = λ n within.
          elim (cases_eq n k) [
            | inl same ↦ (let Own : ℕ → Type 0 = λ m. history m all ≡ h m in subst Own (sym same) are.own)
            | inr other ↦ are.others n other ∙ is.parts n (omega arith)
          ];
      past = λ n beyond. are.others n (λ same. omega arith) ∙ is.past n (omega arith);
    }

merge_below : (tables : Tables) (tries : ℕ) (h : ℕ → List Event) → ((n : ℕ) → IsNodeChain tables tries n (h n)) → (k : ℕ)
    → (all : List Event) × IsMergeBelow h k all
merge_below tables tries h chains zero = ([], record { falls = tt; parts = λ n none. absurd (omega arith); past = λ n beyond. refl })
merge_below tables tries h chains (suc k) =
    let (log, is) = merge_below tables tries h chains k in
    let (all, are) = put_all tables tries k (h k) log (chains k) is.falls (is.past k (omega arith)) in
    (all, one_merged h k log all is are)

pub chained_merge : (tables : Tables) (tries nodes : ℕ) (h : ℕ → List Event) → AreChained tables tries h → ((n : ℕ) → nodes ≤ n → h n ≡ [])
    → (merged : List Event) × IsMerge h merged
chained_merge tables tries nodes h chained none =
    let (all, is) = merge_below tables tries h chained.nodes nodes in (
      all,
      record {
        falls = is.falls;
        parts = λ n.
            elim (leb_tells nodes n) [
              | inl past ↦ is.past n past.1 ∙ sym (none n past.1)
              | inr within ↦ is.parts n within.1
            ];
      },
    )
