-- The events of all records: those of one node are the events of its record, so their stamps rise.
use Rattle.std.proofs.Common.{◌≡◌, ◌↔◌, ℕ, zero, suc, ◌==◌, Bool, true, cond, inl, inr, List, [], ◌∷◌, ◌++◌, filter, slice_get, slice_index_or, Some, refl, sym, ap, ◌∙◌, subst, append-nil, arith}
use Rattle.std.proofs.lemmas.Bool.Decides.{nat_tests}
use Rattle.std.proofs.lemmas.List.Elements.{filter-append, All-head, All-tail, All-contains}
use Rattle.std.proofs.lemmas.Option.{slice_get-get_or}
use Rattle.rl_base.specs.declared.ids.NodeNo.{NodeNo}
use Rattle.rl_record.specs.declared.event.Event.{Event}
use Rattle.rl_record.specs.Merge.{history}
use Rattle.rl_record.specs.Records.{Record, all_events, Rises, IsIn, IsRecordOf, AreByNode, AreHistories}
use Rattle.rl_record.proofs.Members.{Has, has_either, has_from_history, contains_from_has}
use Rattle.rl_record.proofs.Rising.{Up, up_from_rises, up_filter}

-- an event of all is in some record
pub in_some : (records : List Record) (e : Event) → Has (all_events records) e → (i : ℕ) × IsIn records i e
in_some [] e h = absurd h
in_some (r ∷ records) e h =
    elim (has_either r.events (all_events records) e h) [
      | inl here ↦ (0, (r, refl, contains_from_has r.events e here))
      | inr there ↦ (let found = in_some records e there in (suc found.0, found.1))
    ]

tail_histories : (r : Record) (records : List Record) → AreHistories (r ∷ records) → AreHistories records
tail_histories r records are =
    record {
      rise = All-tail (λ (s : Record). Rises s.events) r records are.rise;
      of_one = λ i e f a b. are.of_one (suc i) e f a b;
      apart = λ i j e f a b same. let is : suc i ≡ suc j = are.apart (suc i) (suc j) e f a b same in omega arith;
    }

-- where one of two lists is empty
up_one : (xs ys : List Event) → Up xs → Up ys → ((e f : Event) → Has xs e → Has ys f → ⊥) → Up (xs ++ ys)
up_one [] ys ux uy none = uy
up_one (x ∷ xs) [] ux uy none = subst Up (sym (append-nil (x ∷ xs))) ux
up_one (x ∷ xs) (y ∷ ys) ux uy none = absurd (none x y (inl refl) (inl refl))

same_node : (e f : Event) (n : ℕ) → e.node.0 ≡ n → f.node.0 ≡ n → e.node ≡ f.node
same_node e f n a b = let node : ℕ → NodeNo = λ m. record { 0 = m } in ap node (a ∙ sym b)

never_both_records : (n : ℕ) (r : Record) (records : List Record) → AreHistories (r ∷ records)
    → (e f : Event) → Has (history n r.events) e → Has (history n (all_events records)) f → ⊥
never_both_records n r records are e f he hf =
    let here = has_from_history n r.events e he in
    let there = has_from_history n (all_events records) f hf in
    let found = in_some records f there.0 in
    let is : zero ≡ suc found.0 = are.apart 0 (suc found.0) e f (r, refl, contains_from_has r.events e here.0) found.1 (same_node e f n here.1 there.1) in
    omega arith

pub all_up : (records : List Record) → AreHistories records → (n : ℕ) → Up (history n (all_events records))
all_up [] are n = tt
all_up (r ∷ records) are n =
    let rises : Rises r.events = All-head (λ (s : Record). Rises s.events) r records are.rise in
    let own : Up (history n r.events) = up_filter (λ e. e.node.0 == n) r.events (up_from_rises r.events rises) in
    let others : Up (history n (all_events records)) = all_up records (tail_histories r records are) n in
    subst Up (sym (filter-append (λ e. e.node.0 == n) r.events (all_events records)))
    (up_one (history n r.events) (history n (all_events records)) own others (never_both_records n r records are))

-- the history of the node of a record is its events
filter_all : (p : Event → Bool) (xs : List Event) → ((e : Event) → Has xs e → p e ≡ true) → filter p xs ≡ xs
filter_all p [] all = refl
filter_all p (x ∷ xs) all =
    let P : Bool → Type 0 = λ b. cond b (x ∷ filter p xs) (filter p xs) ≡ x ∷ xs in
    subst P (sym (all x (inl refl))) (ap (λ l. x ∷ l) (filter_all p xs (λ e h. all e (inr h))))

nothing : (xs : List Event) → ((e : Event) → Has xs e → ⊥) → xs ≡ []
nothing [] none = refl
nothing (x ∷ xs) none = absurd (none x (inl refl))

abbrev Holds : List Record → ℕ → ℕ → Type 0
Holds records i n = (j : ℕ) (e : Event) → IsIn records j e → (e.node.0 ≡ n ↔ j ≡ i)

later : (x : Record) (records : List Record) (i n : ℕ) → Holds (x ∷ records) (suc i) n → Holds records i n
later x records i n holds j e h =
    (λ node. let at : suc j ≡ suc i = (holds (suc j) e h).0 node in omega arith, λ at. (holds (suc j) e h).1 (ap suc at))

history_at : (records : List Record) (i n : ℕ) (r : Record) → slice_get records i ≡ Some r → Holds records i n
    → history n (all_events records) ≡ r.events
history_at [] i n r is holds = absurd (cc)
history_at (x ∷ records) zero n r is holds =
    let same : x ≡ r = cc in
    let own : history n x.events ≡ x.events = filter_all (λ e. e.node.0 == n) x.events
    (λ e h. let here : e.node.0 ≡ n = (holds 0 e (x, refl, contains_from_has x.events e h)).1 refl in grind (arith, nat_tests)) in
    let none : history n (all_events records) ≡ [] = nothing (history n (all_events records))
    (λ e h.
    let found = has_from_history n (all_events records) e h in
    let at = in_some records e found.0 in
    let first : suc at.0 ≡ zero = (holds (suc at.0) e at.1).0 found.1 in
    omega arith) in
    filter-append (λ e. e.node.0 == n) x.events (all_events records)
    ∙ ap (λ l. history n x.events ++ l) none
    ∙ append-nil (history n x.events)
    ∙ own
    ∙ ap (λ (s : Record). s.events) same
history_at (x ∷ records) (suc i) n r is holds =
    let none : history n x.events ≡ [] = nothing (history n x.events)
    (λ e h.
    let found = has_from_history n x.events e h in
    let first : zero ≡ suc i = (holds 0 e (x, refl, contains_from_has x.events e found.0)).0 found.1 in
    omega arith) in
    let rest : history n (all_events records) ≡ r.events = history_at records i n r is (later x records i n holds) in
    filter-append (λ e. e.node.0 == n) x.events (all_events records) ∙ ap (λ l. l ++ history n (all_events records)) none ∙ rest

pub history_of_record : (records : List Record) (i n : ℕ) (r : Record) → IsRecordOf records i n r → history n (all_events records) ≡ r.events
history_of_record records i n r of = history_at records i n r of.stands of.holds

-- records in the order of their nodes
node_in : (records : List Record) → AreByNode records → (i : ℕ) (e : Event) → IsIn records i e → e.node.0 ≡ i
node_in records order i e (r, at, has) = All-contains (λ f. f.node.0 ≡ i) r.events e (order i r at).1 has

pub histories_in_order : (records : List Record) → AreByNode records → AreHistories records
histories_in_order records order =
    record {
      rise = λ k d within. let at = slice_get-get_or records k d within in (order k (slice_index_or records k d) at).0;
      of_one = λ i e f a b. same_node e f i (node_in records order i e a) (node_in records order i f b);
      apart = λ i j e f a b same. sym (node_in records order i e a) ∙ ap (λ (n : NodeNo). n.0) same ∙ node_in records order j f b;
    }
