-- From how the words end to what a call promises.
use Rattle.std.proofs.Common.{Result, Ok, Err, IfOk, ◌≡◌, ◌≢◌, ◌<◌, ℕ, List, [], ◌∷◌, Option, Some, None, IsSome, Contains, inl, inr, refl, sym, ap, subst, arith, ◌∙◌}
use Rattle.std.specs.Io.KnownBytes.{Appends}
use Rattle.rl_outside.specs.Causes.{Rose}
use Rattle.rl_model.specs.declared.network.NetworkPlan.{NetworkPlan}
use Rattle.rl_cli.specs.declared.order.Order.{Order}
use Rattle.rl_cli.specs.declared.order.Order.TheVariants.{Run}
use Rattle.relis.specs.Answers.{Held, Counts, HoldsNetwork, NoneRose, OneRose, CouldNotRead, IsCarriedOut, EndsAs, IsOutcome, LeadsTo, UnlessMemory, names_of}
use Rattle.relis.specs.Calls.{Outside, IsWritten, HasCause, AsksForRun}
use Rattle.relis.specs.Commands.{End}
use Rattle.relis.specs.Lines.{status_line}
use Rattle.relis.specs.Orders.{files_of}
use Rattle.relis.specs.declared.status.Status.{Status}
use Rattle.relis.specs.declared.status.Status.TheVariants as status
use Rattle.relis.proofs.Fetches.{contains_first, contains_later}
use Rattle.relis.proofs.OneEnd.{status_of, one_end, run_end}

-- an end other than want of memory has its cause, with its line
pub leads_on : (asked : Option Order) (held : Held) (before now : Counts) (answer : Status) (text : List ℕ) → (answer ≡ status.NoMemory → ⊥) →
    UnlessMemory (IsOutcome asked held before now) (Err answer) → text ≡ status_line answer → (IsOutcome asked held before now (Err status.Done) → ⊥) →
    (IsOutcome asked held before now (Err status.WriteFault) → ⊥) → LeadsTo asked held before now answer text
leads_on asked held before now status.Usage text some end line done fault = (end, line)
leads_on asked held before now status.ReadFault text some end line done fault = (end, line)
leads_on asked held before now (status.Refused n p) text some end line done fault = (end, line)
leads_on asked held before now (status.NotSafe l g) text some end line done fault = (end, line)
leads_on asked held before now status.NoMemory text some end line done fault = absurd (some refl)
leads_on asked held before now status.Done text some end line done fault = absurd (done end)
leads_on asked held before now status.WriteFault text some end line done fault = absurd (fault end)

-- the whole text of an answer was written
pub written_whole : (asked : Option Order) (before now : Outside) (answer : Status) (text : List ℕ) →
    HasCause asked before now answer text → Appends before.written now.written text → IsWritten asked before now answer
written_whole asked before now status.Usage text leads put = (text, leads, put)
written_whole asked before now status.ReadFault text leads put = (text, leads, put)
written_whole asked before now status.Done text leads put = (text, leads, put)
written_whole asked before now (status.Refused n p) text leads put = (text, leads, put)
written_whole asked before now (status.NotSafe l g) text leads put = (text, leads, put)
written_whole asked before now status.WriteFault text leads put = absurd leads
written_whole asked before now status.NoMemory text leads put = absurd leads

-- an answer with a cause is no write fault
pub no_write_fault : (asked : Option Order) (held : Held) (before now : Counts) (answer : Status) (text : List ℕ) →
    LeadsTo asked held before now answer text → answer ≢ status.WriteFault
no_write_fault asked held before now answer text leads is =
    subst (λ (s : Status). LeadsTo asked held before now s text) is leads

-- the end that an answer with a cause comes from
abbrev end_of : Status → List ℕ → End
end_of status.Done text = Ok text
end_of answer text = Err answer

outcome : (asked : Option Order) (held : Held) (before now : Counts) (answer : Status) (text : List ℕ) →
    LeadsTo asked held before now answer text → IsOutcome asked held before now (end_of answer text)
outcome asked held before now status.Done text leads = leads
outcome asked held before now status.Usage text leads = leads.0
outcome asked held before now status.ReadFault text leads = leads.0
outcome asked held before now (status.Refused n p) text leads = leads.0
outcome asked held before now (status.NotSafe l g) text leads = leads.0
outcome asked held before now status.WriteFault text leads = absurd leads
outcome asked held before now status.NoMemory text leads = absurd leads

status_of-end_of : (answer : Status) (text : List ℕ) → status_of (end_of answer text) ≡ answer
status_of-end_of status.Done text = refl
status_of-end_of status.Usage text = refl
status_of-end_of status.ReadFault text = refl
status_of-end_of (status.Refused n p) text = refl
status_of-end_of (status.NotSafe l g) text = refl
status_of-end_of status.WriteFault text = refl
status_of-end_of status.NoMemory text = refl

-- an order ends with a read fault, of which a named file's count rose, or no count rose and it was carried out
data EndsBy (order : Order) (held : Held) (before now : Counts) (e : End) : Type 0 where
  unread : e ≡ Err status.ReadFault → CouldNotRead held before now (files_of order) → EndsBy order held before now e
  carried : NoneRose before now → IsCarriedOut held order e → EndsBy order held before now e

ends_by : (order : Order) (held : Held) (before now : Counts) (e : End) → EndsAs order held before now e → EndsBy order held before now e
ends_by order held before now (Ok text) ends = carried ends.0 ends.1
ends_by order held before now (Err status.ReadFault) ends = unread refl ends
ends_by order held before now (Err status.Done) ends = carried ends.0 ends.1
ends_by order held before now (Err status.Usage) ends = carried ends.0 ends.1
ends_by order held before now (Err (status.Refused n p)) ends = carried ends.0 ends.1
ends_by order held before now (Err (status.NotSafe l g)) ends = carried ends.0 ends.1
ends_by order held before now (Err status.WriteFault) ends = carried ends.0 ends.1
ends_by order held before now (Err status.NoMemory) ends = carried ends.0 ends.1

-- where none could be read, a count rose
rose : (held : Held) (before now : Counts) (names : List (List ℕ)) → CouldNotRead held before now names → OneRose names before now
rose held before now [] none = absurd none
rose held before now (first ∷ others) why = elim why [
  | inl up ↦ (first, contains_first first others, up)
  | inr w ↦ (w.1.0, contains_later first others w.1.0 w.1.1, w.1.2)
]

stays : (names : List (List ℕ)) (before now : Counts) → NoneRose before now → OneRose names before now → ⊥
stays names before now none one = let same = none one.0 in let up : before one.0 < now one.0 = one.2 in omega arith

-- where the count of a named file rose, the end is a read fault
read_fault : (asked : Option Order) (held : Held) (before now : Counts) (e : End) → IsOutcome asked held before now e →
    OneRose (names_of asked) before now → status_of e ≡ status.ReadFault
read_fault None held before now e ends one = absurd (stays [] before now ends.1 one)
read_fault (Some order) held before now e ends one = by_way (ends_by order held before now e ends)
  where
    by_way : EndsBy order held before now e → status_of e ≡ status.ReadFault
    by_way (unread is why) = ap status_of is
    by_way (carried none work) = absurd (stays (files_of order) before now none one)

pub told_fault : (asked : Option Order) (held : Held) (before now : Counts) (answer : Status) (text : List ℕ) →
    LeadsTo asked held before now answer text → OneRose (names_of asked) before now → answer ≡ status.ReadFault
told_fault asked held before now answer text leads one =
    sym (status_of-end_of answer text) ∙ read_fault asked held before now (end_of answer text) (outcome asked held before now answer text leads) one

-- where no count rose, two ends of the same words over the same files have one status
same_end : (asked : Option Order) (held : Held) (x y u v : Counts) (e f : End) →
    ((name : List ℕ) → Contains (names_of asked) name → IsSome (held name)) → (OneRose (names_of asked) x y → ⊥) → (OneRose (names_of asked) u v → ⊥) →
    IsOutcome asked held x y e → IsOutcome asked held u v f → status_of e ≡ status_of f
same_end None held x y u v e f all still stay one other = ap status_of (one.0 ∙ sym other.0)
same_end (Some order) held x y u v e f all still stay one other = by_ways (ends_by order held x y e one) (ends_by order held u v f other)
  where
    by_ways : EndsBy order held x y e → EndsBy order held u v f → status_of e ≡ status_of f
    by_ways (carried none work) (carried no_one same) = one_end held order e f all work same
    by_ways (unread is why) way = absurd (still (rose held x y (files_of order) why))
    by_ways (carried none work) (unread is why) = absurd (stay (rose held u v (files_of order) why))

-- so two answers to which they lead are the same
pub same_answer : (asked : Option Order) (held : Held) (before now : Counts) (found answer : Status) (text other : List ℕ) →
    ((name : List ℕ) → Contains (names_of asked) name → IsSome (held name)) → (OneRose (names_of asked) before now → ⊥) →
    LeadsTo asked held before now found text → LeadsTo asked held before before answer other → found ≡ answer
same_answer asked held before now found answer text other all still found_leads leads =
    sym (status_of-end_of found text)
    ∙ same_end asked held before now before before (end_of found text) (end_of answer other) all still
    (stays (names_of asked) before before (λ n. refl))
    (outcome asked held before now found text found_leads) (outcome asked held before before answer other leads)
    ∙ status_of-end_of answer other

-- a run of an accepted network is done
run_outcome : (held : Held) (before now : Counts) (name : List ℕ) (tries : ℕ) (workers : Option ℕ) (round : ℕ) (net : NetworkPlan) (e : End) →
    IsSome (held name) → HoldsNetwork held name net → (OneRose (name ∷ []) before now → ⊥) →
    EndsAs (Run name tries workers round) held before now e → status_of e ≡ status.Done
run_outcome held before now name tries workers round net e told holds still ends =
    by_way (ends_by (Run name tries workers round) held before now e ends)
  where
    by_way : EndsBy (Run name tries workers round) held before now e → status_of e ≡ status.Done
    by_way (unread is why) = absurd (still (rose held before now (name ∷ []) why))
    by_way (carried none work) = run_end held name tries workers round net e told holds work

pub run_is_done : (asked : Option Order) (outside : Outside) (before now : Counts) (answer : Status) (text : List ℕ) → AsksForRun asked outside →
    ((name : List ℕ) → Contains (names_of asked) name → IsSome (outside.held name)) → (OneRose (names_of asked) before now → ⊥) →
    LeadsTo asked outside.held before now answer text → answer ≡ status.Done
run_is_done asked outside before now answer text asks all still leads =
    let order : Order = Run asks.name asks.tries asks.workers asks.round in
    let held = outside.held in
    let told : (name : List ℕ) → Contains (names_of (Some order)) name → IsSome (held name) =
    subst (λ (o : Option Order). (name : List ℕ) → Contains (names_of o) name → IsSome (held name)) asks.run all in
    sym (status_of-end_of answer text)
    ∙ run_outcome held before now asks.name asks.tries asks.workers asks.round asks.net (end_of answer text) (told asks.name (contains_first asks.name []))
    asks.holds (subst (λ (o : Option Order). OneRose (names_of o) before now → ⊥) asks.run still)
    (subst (λ (o : Option Order). IsOutcome o held before now (end_of answer text)) asks.run (outcome asked held before now answer text leads))
