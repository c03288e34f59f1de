-- What the files tell leads to one answer.
use Rattle.std.proofs.Common.{◌≡◌, ◌∙◌, ◌*◌, ◌<◌, ◌≤◌, arith, ℕ, List, [], ◌∷◌, Option, Some, None, IfSome, IsSome, Result, Ok, Err, Contains, refl, sym, ap, subst}
use Rattle.rl_base.specs.declared.limits.TheConstants.{MAX_TURNS}
use Rattle.rl_base.specs.declared.place.Place.{Place}
use Rattle.rl_model.specs.declared.network.NetworkPlan.{NetworkPlan}
use Rattle.rl_model.specs.Network.{IsNetwork}
use Rattle.rl_report.specs.Grammar.{IsLong}
use Rattle.rl_report.specs.Refusals as reports
use Rattle.rl_report.specs.declared.refusal.ReportRefusal.TheVariants.{Line}
use Rattle.rl_report.proofs.OneReading.{one_report, no_fault, one_fault}
use Rattle.rl_audit.specs.declared.verdict.Verdict.{Verdict}
use Rattle.rl_audit.specs.declared.verdict.Verdict.TheVariants.{Safe, Bad}
use Rattle.rl_audit.specs.Verdicts.{IsVerdict, IsVerdictOn}
use Rattle.rl_audit.proofs.OneVerdict.{only_verdict}
use Rattle.rl_schedule.specs.declared.schedules.Item.{Item}
use Rattle.rl_schedule.specs.Readings.{nodes_of, schedule_of}
use Rattle.rl_schedule.specs.Refusals.{refusal_number, refusal_place}
use Rattle.rl_cli.specs.declared.order.Order.{Order}
use Rattle.rl_cli.specs.declared.order.Order.TheVariants.{Check, Tables, Rounds, Drive, Run, Audit, Make}
use Rattle.relis.specs.Answers.{Held, AreTold, HoldsNetwork, IsCarriedOut}
use Rattle.relis.specs.Commands.{End, ChecksTo, PrintsTo, DrivesRoundsTo, DrivesScheduleTo, RunsTo, AuditsTo, IsReportRefusal, faulty, long, MakesTo, IsWork, IsWorkAlone, IsWorkOn, IsWorkOnText, refused, accepted}
use Rattle.relis.specs.Networks.{IsAcceptedAs}
use Rattle.relis.specs.Orders.{files_of}
use Rattle.relis.specs.declared.status.Status.{Status}
use Rattle.relis.specs.declared.status.Status.TheVariants as status
use Rattle.relis.proofs.Fetches.{contains_first, contains_later}
use Rattle.relis.proofs.Judgements.{judged-accepted, judged-refused, IsNetwork-accepted, same_network}

-- the status of an end
abbrev pub status_of : End → Status
status_of (Ok text) = status.Done
status_of (Err answer) = answer

-- a report has one verdict
pub same_verdict : (net : NetworkPlan) (bytes : List ℕ) (v w : Verdict) → IsNetwork net → IsVerdictOn net bytes v → IsVerdictOn net bytes w → v ≡ w
same_verdict net bytes v w is one other =
    let same = one_report net bytes one.report other.report is one.spelled other.spelled in
    only_verdict net other.report v w (subst (λ r. IsVerdict net r v) same one.verdict_is) other.verdict_is

-- and a report that is refused has none
pub no_verdict : (net : NetworkPlan) (bytes : List ℕ) (v : Verdict) (n : ℕ) (p : Place) → IsVerdictOn net bytes v → (IsLong net bytes → ⊥) →
    IsReportRefusal net bytes n p → ⊥
no_verdict net bytes v n p one short (faulty k fits fault) = no_fault net bytes one.report k one.spelled fault
no_verdict net bytes v n p one short (long is) = short is

-- nor is it refused twice
same_refusal : (net : NetworkPlan) (bytes : List ℕ) (n m : ℕ) (p q : Place) → IsReportRefusal net bytes n p → IsReportRefusal net bytes m q →
    status.Refused n p ≡ status.Refused m q
same_refusal net bytes n m p q (faulty k short fault) (faulty l fits other) =
    ap (λ (x : ℕ). status.Refused (reports.refusal_number (Line x)) (reports.refusal_place (Line x))) (one_fault net bytes k l fault other)
same_refusal net bytes n m p q (faulty k short fault) (long is) = absurd (short is)
same_refusal net bytes n m p q (long is) (faulty l short other) = absurd (short is)
same_refusal net bytes n m p q (long is) (long same) = refl

one_audit : (net : NetworkPlan) (bytes : List ℕ) (e f : End) → IsNetwork net → AuditsTo net bytes e → AuditsTo net bytes f → status_of e ≡ status_of f
one_audit net bytes (Ok t) (Ok u) is one other = refl
one_audit net bytes (Ok t) (Err (status.NotSafe l g)) is one other =
    absurd (let same = same_verdict net bytes (Safe one.1.0) (Bad l g) is one.1.1 other.1 in cc)
one_audit net bytes (Ok t) (Err (status.Refused n p)) is one other = absurd (no_verdict net bytes (Safe one.1.0) n p one.1.1 one.0 other)
one_audit net bytes (Err (status.NotSafe l g)) (Ok u) is one other =
    absurd (let same = same_verdict net bytes (Safe other.1.0) (Bad l g) is other.1.1 one.1 in cc)
one_audit net bytes (Err (status.NotSafe l g)) (Err (status.NotSafe k h)) is one other =
    let same = same_verdict net bytes (Bad l g) (Bad k h) is one.1 other.1 in cc
one_audit net bytes (Err (status.NotSafe l g)) (Err (status.Refused n p)) is one other =
    absurd (no_verdict net bytes (Bad l g) n p one.1 one.0 other)
one_audit net bytes (Err (status.Refused n p)) (Ok u) is one other = absurd (no_verdict net bytes (Safe other.1.0) n p other.1.1 other.0 one)
one_audit net bytes (Err (status.Refused n p)) (Err (status.NotSafe l g)) is one other =
    absurd (no_verdict net bytes (Bad l g) n p other.1 other.0 one)
one_audit net bytes (Err (status.Refused n p)) (Err (status.Refused m q)) is one other = same_refusal net bytes n m p q one other
one_audit net bytes (Err status.Done) f is one other = absurd one
one_audit net bytes (Err status.Usage) f is one other = absurd one
one_audit net bytes (Err status.ReadFault) f is one other = absurd one
one_audit net bytes (Err status.WriteFault) f is one other = absurd one
one_audit net bytes (Err status.NoMemory) f is one other = absurd one
one_audit net bytes e (Err status.Done) is one other = absurd other
one_audit net bytes e (Err status.Usage) is one other = absurd other
one_audit net bytes e (Err status.ReadFault) is one other = absurd other
one_audit net bytes e (Err status.WriteFault) is one other = absurd other
one_audit net bytes e (Err status.NoMemory) is one other = absurd other

-- the same number and the same place are one refusal
same_place : (n m : ℕ) (p q : Place) → n ≡ m → p ≡ q → status.Refused n p ≡ status.Refused m q
same_place n m p q same place = cc

same_Err : {A E : Type 0} (d e : E) → ◌≡◌ {A = Result A E} (Err d) (Err e) → d ≡ e
same_Err d e is = cc

few_and_many : (net : NetworkPlan) (rounds : ℕ) → rounds * nodes_of net ≤ MAX_TURNS → MAX_TURNS < rounds * nodes_of net → ⊥
few_and_many net rounds few many = omega arith

-- the work of a command that only prints
one_check : (net : NetworkPlan) (e f : End) → ChecksTo net e → ChecksTo net f → status_of e ≡ status_of f
one_check net (Ok t) (Ok u) one other = refl
one_check net (Err s) f one other = absurd one
one_check net (Ok t) (Err s) one other = absurd other

one_print : (net : NetworkPlan) (e f : End) → PrintsTo net e → PrintsTo net f → status_of e ≡ status_of f
one_print net (Ok t) (Ok u) one other = refl
one_print net (Err s) f one other = absurd one
one_print net (Ok t) (Err s) one other = absurd other

one_rounds : (net : NetworkPlan) (rounds tries : ℕ) (e f : End) → DrivesRoundsTo net rounds tries e → DrivesRoundsTo net rounds tries f →
    status_of e ≡ status_of f
one_rounds net rounds tries (Ok t) (Ok u) one other = refl
one_rounds net rounds tries (Ok t) (Err (status.Refused n p)) one other = absurd (few_and_many net rounds one.0 other.0)
one_rounds net rounds tries (Err (status.Refused n p)) (Ok t) one other = absurd (few_and_many net rounds other.0 one.0)
one_rounds net rounds tries (Err (status.Refused n p)) (Err (status.Refused m q)) one other =
    same_place n m p q (one.1 ∙ sym other.1) (one.2 ∙ sym other.2)
one_rounds net rounds tries (Err status.Done) f one other = absurd one
one_rounds net rounds tries (Err status.Usage) f one other = absurd one
one_rounds net rounds tries (Err status.ReadFault) f one other = absurd one
one_rounds net rounds tries (Err status.WriteFault) f one other = absurd one
one_rounds net rounds tries (Err status.NoMemory) f one other = absurd one
one_rounds net rounds tries (Err (status.NotSafe l g)) f one other = absurd one
one_rounds net rounds tries e (Err status.Done) one other = absurd other
one_rounds net rounds tries e (Err status.Usage) one other = absurd other
one_rounds net rounds tries e (Err status.ReadFault) one other = absurd other
one_rounds net rounds tries e (Err status.WriteFault) one other = absurd other
one_rounds net rounds tries e (Err status.NoMemory) one other = absurd other
one_rounds net rounds tries e (Err (status.NotSafe l g)) one other = absurd other

same_reading : {A : Type 0} (found one other : A) → found ≡ one → found ≡ other → one ≡ other
same_reading found one other is same = sym is ∙ same

one_schedule : (net : NetworkPlan) (bytes : List ℕ) (tries : ℕ) (e f : End) → DrivesScheduleTo net bytes tries e →
    DrivesScheduleTo net bytes tries f → status_of e ≡ status_of f
one_schedule net bytes tries (Ok t) (Ok u) one other = refl
one_schedule net bytes tries (Ok t) (Err (status.Refused n p)) one other =
    absurd (let same = same_reading (schedule_of net bytes) (Ok one.0) (Err other.0) one.1 other.1 in cc)
one_schedule net bytes tries (Err (status.Refused n p)) (Ok t) one other =
    absurd (let same = same_reading (schedule_of net bytes) (Err one.0) (Ok other.0) one.1 other.1 in cc)
one_schedule net bytes tries (Err (status.Refused n p)) (Err (status.Refused m q)) one other =
    let same : one.0 ≡ other.0 = same_Err {A = List Item} one.0 other.0 (same_reading (schedule_of net bytes) (Err one.0) (Err other.0) one.1 other.1) in
    same_place n m p q (one.2 ∙ ap refusal_number same ∙ sym other.2) (one.3 ∙ ap refusal_place same ∙ sym other.3)
one_schedule net bytes tries (Err status.Done) f one other = absurd one
one_schedule net bytes tries (Err status.Usage) f one other = absurd one
one_schedule net bytes tries (Err status.ReadFault) f one other = absurd one
one_schedule net bytes tries (Err status.WriteFault) f one other = absurd one
one_schedule net bytes tries (Err status.NoMemory) f one other = absurd one
one_schedule net bytes tries (Err (status.NotSafe l g)) f one other = absurd one
one_schedule net bytes tries e (Err status.Done) one other = absurd other
one_schedule net bytes tries e (Err status.Usage) one other = absurd other
one_schedule net bytes tries e (Err status.ReadFault) one other = absurd other
one_schedule net bytes tries e (Err status.WriteFault) one other = absurd other
one_schedule net bytes tries e (Err status.NoMemory) one other = absurd other
one_schedule net bytes tries e (Err (status.NotSafe l g)) one other = absurd other

one_make : (n : ℕ) (e f : End) → MakesTo n e → MakesTo n f → status_of e ≡ status_of f
one_make n (Ok t) (Ok u) one other = refl
one_make n (Err s) f one other = absurd one
one_make n (Ok t) (Err s) one other = absurd other

-- a run ends only with a text
runs_to_done : (net : NetworkPlan) (tries : ℕ) (e : End) → RunsTo net tries e → status_of e ≡ status.Done
runs_to_done net tries (Ok text) work = refl
runs_to_done net tries (Err answer) work = absurd work

one_work_on : (order : Order) (net : NetworkPlan) (others : List (List ℕ)) (e f : End) → IsNetwork net → IsWorkOn order net others e →
    IsWorkOn order net others f → status_of e ≡ status_of f
one_work_on (Check name) net others e f is one other = one_check net e f one other
one_work_on (Tables name) net others e f is one other = one_print net e f one other
one_work_on (Rounds name rounds tries) net others e f is one other = one_rounds net rounds tries e f one other
one_work_on (Audit name report) net [] e f is one other = absurd one
one_work_on (Audit name report) net (bytes ∷ others) e f is one other = one_audit net bytes e f is one other
one_work_on (Drive name schedule tries) net [] e f is one other = absurd one
one_work_on (Drive name schedule tries) net (bytes ∷ others) e f is one other = one_schedule net bytes tries e f one other
one_work_on (Run name tries workers round) net others e f is one other = runs_to_done net tries e one ∙ sym (runs_to_done net tries f other)
one_work_on (Make n) net others e f is one other = absurd one

one_work_alone : (order : Order) (e f : End) → IsWorkAlone order e → IsWorkAlone order f → status_of e ≡ status_of f
one_work_alone (Make n) e f one other = one_make n e f one other
one_work_alone (Check name) e f one other = absurd one
one_work_alone (Tables name) e f one other = absurd one
one_work_alone (Rounds name rounds tries) e f one other = absurd one
one_work_alone (Drive name schedule tries) e f one other = absurd one
one_work_alone (Run name tries workers round) e f one other = absurd one
one_work_alone (Audit name report) e f one other = absurd one

one_work : (order : Order) (contents : List (List ℕ)) (e f : End) → IsWork order contents e → IsWork order contents f → status_of e ≡ status_of f
one_work order [] e f one other = one_work_alone order e f one other
one_work order (bytes ∷ others) e f (refused n p h) (refused m q k) = sym (judged-refused bytes n p h) ∙ judged-refused bytes m q k
one_work order (bytes ∷ others) e f (refused n p h) (accepted net g k work) =
    absurd (let no = sym (judged-refused bytes n p h) ∙ judged-accepted bytes net k in cc)
one_work order (bytes ∷ others) e f (accepted net g k work) (refused n p h) =
    absurd (let no = sym (judged-refused bytes n p h) ∙ judged-accepted bytes net k in cc)
one_work order (bytes ∷ others) e f (accepted net g k work) (accepted net' g' k' work') =
    one_work_on order net others e f (IsNetwork-accepted bytes net k) work
    (subst (λ (x : NetworkPlan). IsWorkOn order x others f) (same_network bytes net' net k' k) work')

-- the told bytes of a file are its own
same_told : (told : Option (List ℕ)) (b c : List ℕ) → IsSome told → IfSome told (λ there. b ≡ there) → IfSome told (λ there. c ≡ there) → b ≡ c
same_told None b c some one other = absurd (cc)
same_told (Some there) b c some one other = one ∙ sym other

same_contents : (held : Held) (names contents others : List (List ℕ)) → ((name : List ℕ) → Contains names name → IsSome (held name)) →
    AreTold held names contents → AreTold held names others → contents ≡ others
same_contents held [] [] [] all one other = refl
same_contents held [] (c ∷ cs) ds all one other = absurd one
same_contents held [] [] (d ∷ ds) all one other = absurd other
same_contents held (n ∷ names) [] ds all one other = absurd one
same_contents held (n ∷ names) (c ∷ cs) [] all one other = absurd other
same_contents held (n ∷ names) (c ∷ cs) (d ∷ ds) all one other =
    let first : c ≡ d = same_told (held n) c d (all n (contains_first n names)) one.0 other.0 in
    let rest : cs ≡ ds = same_contents held names cs ds (λ name is. all name (contains_later n names name is)) one.1 other.1 in
    cc

-- where every file is told, carrying an order out ends in one way
pub one_end : (held : Held) (order : Order) (e f : End) → ((name : List ℕ) → Contains (files_of order) name → IsSome (held name)) →
    IsCarriedOut held order e → IsCarriedOut held order f → status_of e ≡ status_of f
one_end held order e f all one other =
    one_work order one.contents e f one.work
    (subst (λ (x : List (List ℕ)). IsWork order x f) (same_contents held (files_of order) other.contents one.contents all other.told one.told) other.work)

-- the work of a run on an accepted network is done
run_work : (name : List ℕ) (tries : ℕ) (workers : Option ℕ) (round : ℕ) (net : NetworkPlan) (bytes : List ℕ) (others : List (List ℕ)) (e : End) →
    IsAcceptedAs bytes net → IsWorkOnText (Run name tries workers round) bytes others e → status_of e ≡ status.Done
run_work name tries workers round net bytes others e is (refused n p h) =
    absurd (let no = sym (judged-refused bytes n p h) ∙ judged-accepted bytes net is in cc)
run_work name tries workers round net bytes others e is (accepted other f k work) = runs_to_done other tries f work

-- and so is a run whose file, which is told, holds such a network
pub run_end : (held : Held) (name : List ℕ) (tries : ℕ) (workers : Option ℕ) (round : ℕ) (net : NetworkPlan) (e : End) → IsSome (held name) →
    HoldsNetwork held name net → IsCarriedOut held (Run name tries workers round) e → status_of e ≡ status.Done
run_end held name tries workers round net e told holds out = by_contents out.contents out.told out.work
  where
    by_contents : (contents : List (List ℕ)) → AreTold held (name ∷ []) contents → IsWork (Run name tries workers round) contents e →
        status_of e ≡ status.Done
    by_contents [] are work = absurd are
    by_contents (bytes ∷ others) are work =
        run_work name tries workers round net bytes others e
        (subst (λ (b : List ℕ). IsAcceptedAs b net) (same_told (held name) holds.bytes bytes told holds.told are.0) holds.accepted) work
