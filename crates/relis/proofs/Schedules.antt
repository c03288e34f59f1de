-- What the reading of a schedule says of its text.
use Rattle.std.proofs.Common.{◌≡◌, ◌<◌, ℕ, List, [], length, Bool, true, cond, Result, Ok, Err, refl, sym, ap, nat_lt, arith, ◌∙◌}
use Rattle.std.proofs.lemmas.Bool.Decides.{nat_tests}
use Rattle.rl_base.specs.declared.limits.TheConstants.{MAX_SCHEDULE_BYTES}
use Rattle.rl_model.specs.declared.network.NetworkPlan.{NetworkPlan}
use Rattle.rl_schedule.specs.declared.refusal.ScheduleRefusal.{ScheduleRefusal}
use Rattle.rl_schedule.specs.declared.refusal.ScheduleRefusal.TheVariants as refusals
use Rattle.rl_schedule.specs.declared.schedules.Item.{Item}
use Rattle.rl_schedule.specs.Readings.{schedule_of, items_after}
use Rattle.rl_schedule.specs.Refusals.{UnlessMemory, refusal_number, refusal_place}
use Rattle.rl_text.specs.Lines.{lines_of}
use Rattle.relis.specs.Commands.{MayRefuse, DrivesScheduleTo}
use Rattle.relis.specs.declared.status.Status.TheVariants as status

pub may_refuse : (net : NetworkPlan) (text : List ℕ) (refusal : ScheduleRefusal) →
    UnlessMemory (Err refusal) (◌≡◌ {A = Result (List Item) ScheduleRefusal} (Err refusal) (schedule_of net text)) → MayRefuse net text refusal
may_refuse net text (refusals.Line n) answer = sym answer
may_refuse net text (refusals.NoNode n) answer = sym answer
may_refuse net text (refusals.TooMany n) answer = sym answer
may_refuse net text refusals.NoMemory answer = tt

long_schedule : (net : NetworkPlan) (text : List ℕ) → MAX_SCHEDULE_BYTES < length text → schedule_of net text ≡ Err (refusals.TooMany 0)
long_schedule net text long =
    let test : nat_lt MAX_SCHEDULE_BYTES (length text) ≡ true = grind (arith, nat_tests) in
    ap (λ (b : Bool). cond b (Err (refusals.TooMany 0)) (items_after net [] (lines_of text))) test

-- a text that is too long is refused
pub too_many : (net : NetworkPlan) (text : List ℕ) (tries : ℕ) → MAX_SCHEDULE_BYTES < length text →
    DrivesScheduleTo net text tries (Err (status.Refused (refusal_number (refusals.TooMany 0)) (refusal_place (refusals.TooMany 0))))
too_many net text tries long =
    (refusals.TooMany 0, long_schedule net text long, refl, refl)
