-- The merge of the records of a run is the merge of its histories.
use Rattle.std.proofs.Common.{◌≡◌, ◌≢◌, ℕ, zero, suc, ◌<◌, ◌≤◌, ◌==◌, max, ◌⊎◌, inl, inr, Bool, true, false, cond}
use Rattle.std.proofs.Common.{List, [], ◌∷◌, ◌++◌, length, reverse, All, slice_get, slice_index_or, Some, refl, sym, ap, ◌∙◌, subst, arith}
use Rattle.std.proofs.lemmas.Bool.{cases_eq}
use Rattle.std.proofs.lemmas.Bool.Decides.{nat_tests, leb_tells}
use Rattle.std.proofs.lemmas.Grind.{reverse_onto}
use Rattle.std.proofs.lemmas.List.{reverse-reverse}
use Rattle.std.proofs.lemmas.List.Elements.{Contains-get_or, All-contains}
use Rattle.std.proofs.lemmas.Option.{slice_get-get_or, slice_get_within}
use Rattle.rl_record.specs.declared.event.Event.{Event}
use Rattle.rl_record.specs.Merge.{history, IsMerge}
use Rattle.rl_record.specs.Records.{Record, all_events, Rises, IsIn, IsRecordOf, AreByNode, IsMergeOf}
use Rattle.rl_record.proofs.Members.{Has, has_from_contains, has_from_reverse, has_either, has_from_history}
use Rattle.rl_record.proofs.Rising.{Up}
use Rattle.rl_record.proofs.Gathered.{in_some}
use Rattle.rl_words.specs.Stamps.{stamp_in}
use Rattle.rl_tables.specs.declared.table.Tables.{Tables}
use Rattle.rl_steps.specs.State.{CoreState, with_value}
use Rattle.rl_steps.specs.Run.{IsRun, state}
use Rattle.rl_steps.proofs.Made.{IsMade, fits_made}
use Rattle.rl_merge.specs.Records.{AreRecordsOf}
use Rattle.rl_merge.proofs.Exchange.{put_same, put_other}

-- no event of a node has a stamp above the node's clock
abbrev IsBelow : (ℕ → ℕ) → ℕ → List Event → Type 0
IsBelow c n xs = (f : Event) → Has xs f → f.stamp ≤ c n

among : (e : Event) (xs : List Event) (f : Event) (b : Bool) → Has (cond b (e ∷ xs) xs) f → (e ≡ f) ⊎ Has xs f
among e xs f true h = h
among e xs f false h = inr h

below_own : (c : ℕ → ℕ) (e : Event) (xs : List Event) (n : ℕ) → c e.node.0 < e.stamp → IsBelow c n xs → n ≡ e.node.0
    → (b : Bool) → IsBelow (with_value c e.node.0 e.stamp) n (cond b (e ∷ xs) xs)
below_own c e xs n later below same b f h =
    let Clock : ℕ → Type 0 = λ m. with_value c e.node.0 e.stamp m ≡ e.stamp in
    let clock : with_value c e.node.0 e.stamp n ≡ e.stamp = subst Clock (sym same) (put_same c e.node.0 e.stamp) in
    let old : c n ≡ c e.node.0 = ap c same in
    elim (among e xs f b h) [
      | inl is ↦ (let stamp : e.stamp ≡ f.stamp = ap (λ (x : Event). x.stamp) is in omega arith)
      | inr there ↦ (let low : f.stamp ≤ c n = below f there in omega arith)
    ]

below_other : (c : ℕ → ℕ) (e : Event) (xs : List Event) (n : ℕ) → IsBelow c n xs → n ≢ e.node.0
    → (b : Bool) → (e.node.0 == n) ≡ b → IsBelow (with_value c e.node.0 e.stamp) n (cond b (e ∷ xs) xs)
below_other c e xs n below other true is f h = absurd (other (grind (arith, nat_tests)))
below_other c e xs n below other false is f h =
    let clock : with_value c e.node.0 e.stamp n ≡ c n = put_other c e.node.0 e.stamp n other in
    let low : f.stamp ≤ c n = below f h in
    omega arith

below_after : (c : ℕ → ℕ) (e : Event) (log : List Event) (n : ℕ) → c e.node.0 < e.stamp → IsBelow c n (history n log)
    → IsBelow (with_value c e.node.0 e.stamp) n (history n (e ∷ log))
below_after c e log n later below =
    elim (cases_eq n e.node.0) [
      | inl same ↦ below_own c e (history n log) n later below same (e.node.0 == n)
      | inr other ↦ below_other c e (history n log) n below other (e.node.0 == n) refl
    ]

later_stamp : (tables : Tables) (c : CoreState) (e : Event) → IsMade tables c e → c.clocks e.node.0 < e.stamp
later_stamp tables c e made =
    let stamp : e.stamp ≡ suc (max (c.clocks e.node.0) (stamp_in e.was)) = made.stamp in
    omega arith

below_clock : (tables : Tables) (tries : ℕ) (log : List Event) → IsRun tables tries log → (n : ℕ)
    → IsBelow (state tables tries log).clocks n (history n log)
below_clock tables tries [] run n f h = absurd h
below_clock tables tries (e ∷ log) run n f h =
    let c = state tables tries log in
    below_after c.clocks e log n (later_stamp tables c e (fits_made tables c e run.1)) (below_clock tables tries log run.0 n) f h

-- so the stamps of a history, oldest first, rise
up_last : (xs : List Event) (x : Event) → Up xs → ((y : Event) → Has xs y → y.stamp < x.stamp) → Up (xs ++ x ∷ [])
up_last [] x up low = (λ y none. absurd none, tt)
up_last (z ∷ zs) x up low = (
  λ y h. elim (has_either zs (x ∷ []) y h) [
    | inl there ↦ up.0 y there
    | inr (inl is) ↦ (let P : Event → Type 0 = λ e. z.stamp < e.stamp in subst P is (low z (inl refl)))
    | inr (inr none) ↦ absurd none
  ],
  up_last zs x up.1 (λ y h. low y (inr h)),
)

one_up : (e : Event) (xs : List Event) (n : ℕ) (b : Bool) → (e.node.0 == n) ≡ b → Up (reverse xs)
    → (e.node.0 ≡ n → (f : Event) → Has xs f → f.stamp < e.stamp) → Up (reverse (cond b (e ∷ xs) xs))
one_up e xs n true is up low =
    let same : e.node.0 ≡ n = grind (arith, nat_tests) in
    subst Up (sym (reverse_onto xs e [])) (up_last (reverse xs) e up (λ y h. low same y (has_from_reverse xs y h)))
one_up e xs n false is up low = up

history_up : (tables : Tables) (tries : ℕ) (log : List Event) → IsRun tables tries log → (n : ℕ) → Up (reverse (history n log))
history_up tables tries [] run n = tt
history_up tables tries (e ∷ log) run n =
    let c = state tables tries log in
    let later = later_stamp tables c e (fits_made tables c e run.1) in
    one_up e (history n log) n (e.node.0 == n) refl (history_up tables tries log run.0 n)
    (λ same f h.
    let low : f.stamp ≤ c.clocks n = below_clock tables tries log run.0 n f h in
    let old : c.clocks n ≡ c.clocks e.node.0 = ap c.clocks (sym same) in
    omega arith)

rises_from_up : (xs : List Event) → Up xs → Rises xs
rises_from_up [] up i j d low high = absurd (omega arith)
rises_from_up (x ∷ xs) up zero zero d low high = absurd (omega arith)
rises_from_up (x ∷ xs) up zero (suc j) d low high =
    let within : j < length xs = omega arith in
    up.0 (slice_index_or xs j d) (has_from_contains xs (slice_index_or xs j d) (Contains-get_or xs j d within))
rises_from_up (x ∷ xs) up (suc i) zero d low high = absurd (omega arith)
rises_from_up (x ∷ xs) up (suc i) (suc j) d low high = rises_from_up xs up.1 i j d (omega arith) (omega arith)

own_events : (n : ℕ) (log : List Event) → All (λ (e : Event). e.node.0 ≡ n) (reverse (history n log))
own_events n log k d within =
    let xs = reverse (history n log) in
    let e = slice_index_or xs k d in
    (has_from_history n log e (has_from_reverse (history n log) e (has_from_contains xs e (Contains-get_or xs k d within)))).1

pub by_node : (tables : Tables) (tries : ℕ) (log : List Event) (records : List Record) → IsRun tables tries log → AreRecordsOf log records → AreByNode records
by_node tables tries log records run are n r at =
    let Kept : List Event → Type 0 = λ l. Rises l × All (λ (e : Event). e.node.0 ≡ n) l in
    subst Kept (sym (are.each n r at)) (rises_from_up (reverse (history n log)) (history_up tables tries log run n), own_events n log)

-- the events of all records, by node
node_in : (records : List Record) → AreByNode records → (i : ℕ) (e : Event) → IsIn records i e → e.node.0 ≡ i
node_in records order i e (r, at, has) = All-contains (λ (f : Event). f.node.0 ≡ i) r.events e (order i r at).1 has

nothing : (xs : List Event) → ((e : Event) → Has xs e → ⊥) → xs ≡ []
nothing [] none = refl
nothing (x ∷ xs) none = absurd (none x (inl refl))

record_of : (records : List Record) → AreByNode records → (n : ℕ) (r : Record) → slice_get records n ≡ Some r → IsRecordOf records n n r
record_of records order n r at =
    record {
      stands = at;
      holds = λ j e h. (λ node. sym (node_in records order j e h) ∙ node, λ same. node_in records order j e h ∙ same);
    }

-- what is asked of a history in a record
abbrev Holding : Type 0
Holding = (all : List Record) (i n : ℕ) (r : Record) → IsRecordOf all i n r → history n (all_events all) ≡ r.events

of_record : Holding → (log : List Event) (records : List Record) → AreByNode records → AreRecordsOf log records → (n : ℕ)
    → n < length records → reverse (history n (all_events records)) ≡ history n log
of_record holding log records order are n within =
    let r = slice_index_or records n record { events = []; limit = 0; spare = 0 } in
    let at = slice_get-get_or records n record { events = []; limit = 0; spare = 0 } within in
    let held = holding records n n r (record_of records order n r at) ∙ are.each n r at in
    ap (λ (l : List Event). reverse l) held ∙ reverse-reverse (history n log)

past_all : (records : List Record) → AreByNode records → (n : ℕ) → length records ≤ n → history n (all_events records) ≡ []
past_all records order n past =
    nothing (history n (all_events records)) (λ e h.
    let found = has_from_history n (all_events records) e h in
    let (j, there) = in_some records e found.0 in
    let node : e.node.0 ≡ j = node_in records order j e there in
    let within : j < length records = slice_get_within records j there.0 there.1 in
    let is : e.node.0 ≡ n = found.1 in
    omega arith)

same_history : Holding → (log : List Event) (records : List Record) → AreByNode records → AreRecordsOf log records → (n : ℕ)
    → reverse (history n (all_events records)) ≡ history n log
same_history holding log records order are n =
    elim (leb_tells (length records) n) [
      | inl past ↦ ap (λ (l : List Event). reverse l) (past_all records order n past.1) ∙ sym (are.others n past.1)
      | inr within ↦ of_record holding log records order are n within.1
    ]

pub merge_of_records : Holding → (log : List Event) (records : List Record) (events : List Event) → AreByNode records → AreRecordsOf log records
    → IsMergeOf records events → IsMerge (λ n. history n log) (reverse events)
merge_of_records holding log records events order are merge =
    record { falls = merge.falls; parts = λ n. merge.parts n ∙ same_history holding log records order are n }
