-- Each step of a box and of its point machine is a step of the protocol.
use Rattle.std.proofs.Common.{◌≡◌, ◌≢◌, ℕ, zero, suc, ◌<◌, ◌≤◌, nat_lt, Bool, true, ◌&&◌, Option, Some, None, refl, sym, ap, ◌∙◌, subst}
use Rattle.std.proofs.Common.{arith}
use Rattle.rl_base.specs.declared.ids.BoxId.{BoxId}
use Rattle.rl_base.specs.declared.ids.TrainId.{TrainId}
use Rattle.rl_base.specs.declared.job.Verb.{Verb}
use Rattle.rl_base.specs.declared.job.Verb.TheVariants as verbs
use Rattle.rl_base.specs.declared.layout.Layout.{Layout}
use Rattle.rl_base.specs.declared.layout.NodeKind.TheVariants as nodes
use Rattle.rl_base.specs.Kind.{arms_of}
use Rattle.rl_model.specs.declared.moves.Move.TheVariants as moves
use Rattle.rl_words.specs.declared.lock.LockWord.{LockWord}
use Rattle.rl_words.specs.declared.lock.LockWord.TheVariants.{Locked}
use Rattle.rl_words.specs.declared.mail.Letter.{Letter}
use Rattle.rl_words.specs.declared.resv.ResvWord.{ResvWord}
use Rattle.rl_words.specs.Mail.{IsRefusable}
use Rattle.rl_words.specs.Resv.{arm_in, with_arm}
use Rattle.rl_words.specs.Word.{Word}
use Rattle.rl_tables.specs.declared.table.BoxTable.{BoxTable}
use Rattle.rl_tables.specs.declared.table.Tables.{Tables}
use Rattle.rl_box.specs.declared.mind.Answer.TheVariants.{No}
use Rattle.rl_box.specs.declared.mind.BoxMind.{BoxMind}
use Rattle.rl_box.specs.declared.mind.Work.TheVariants.{Say}
use Rattle.rl_box.specs.Mind.{box_at, IsWork, IsLetterTo}
use Rattle.rl_box.specs.Steps.{BoxStep}
use Rattle.rl_box.specs.Steps.BoxStep.{take, reserve, refuse, release, lock, ask, moved, unlock, say_yes, say_refused, say_barred, busy}
use Rattle.rl_track.specs.declared.machine.MachineMind.{MachineMind}
use Rattle.rl_track.specs.Machine.{MachineStep}
use Rattle.rl_track.specs.Machine.MachineStep.{throw, settle}
use Rattle.rl_steps.specs.declared.mind.Mind.TheVariants.{Box, Machine}
use Rattle.rl_protocol.specs.State.{State, put}
use Rattle.rl_protocol.specs.Steps.Step.{take as take_label, grant as grant_label, refuse as refuse_label, release as release_label, lock_now as lock_now_label}
use Rattle.rl_protocol.specs.Steps.Step.{lock_ask as lock_ask_label, lock_moved as lock_moved_label, unlock as unlock_label, say_yes as say_yes_label}
use Rattle.rl_protocol.specs.Steps.Step.{say_no as say_no_label, busy as busy_label, throw as throw_label, settle as settle_label}
use Rattle.rl_protocol.specs.TableLine.{line_of}
use Rattle.rl_safety.specs.Railway.{segment_of}
use Rattle.rl_safety.specs.Moves.{arm_move, resv_move}
use Rattle.rl_protocol.specs.Sentences.{StateSays}
use Rattle.rl_safety.proofs.Labels.{IsLabel}
use Rattle.rl_protocol.proofs.BoxLabels.{few_arms, four_arms, new_resv, same_resv, same_lock}

-- a box of the tables, as the state has it
pub record IsBoxHere (tables : Tables) (lay : Layout) (s : State) (x : BoxTable) (m : BoxMind) : Type 0 where
  pub mind : s.boxes x.number.0 ≡ m
  pub kind : (line_of tables).kind x.number.0 ≡ x.kind
  pub arms : (i : ℕ) → (line_of tables).has_arm x.number.0 i ≡ nat_lt i (arms_of x.kind)
  pub work : IsWork lay x m.work

letter_arm : (x : BoxTable) (l : Letter) → IsLetterTo x l → l.x.0 < 4
letter_arm x l is = let few : arms_of x.kind ≤ 4 = few_arms x.kind in let there : l.x.0 < arms_of x.kind = is.x in omega arith

-- the move of a reservation word
arm_same : (tables : Tables) (b : BoxId) (x : ℕ) (a : Option TrainId) → arm_move tables b x a a ≡ None
arm_same tables b x None = refl
arm_same tables b x (Some t) = refl

resv_same : (tables : Tables) (b : BoxId) (w : ResvWord) → resv_move tables b w w ≡ None
resv_same tables b w = rw (arm_same tables b 0 w.arm0, arm_same tables b 1 w.arm1, arm_same tables b 2 w.arm2, arm_same tables b 3 w.arm3) refl

resv_reserved : (tables : Tables) (b : BoxId) (w : ResvWord) (x : ℕ) (t : TrainId) → x < 4 → arm_in w x ≡ None
    → resv_move tables b w (with_arm w x (Some t)) ≡ Some (moves.Reserve t (segment_of tables b x) b)
resv_reserved tables b w zero t small free = rw free refl
resv_reserved tables b w (suc zero) t small free = rw (arm_same tables b 0 w.arm0, free) refl
resv_reserved tables b w (suc (suc zero)) t small free = rw (arm_same tables b 0 w.arm0, arm_same tables b 1 w.arm1, free) refl
resv_reserved tables b w (suc (suc (suc zero))) t small free =
    rw (arm_same tables b 0 w.arm0, arm_same tables b 1 w.arm1, arm_same tables b 2 w.arm2, free) refl
resv_reserved tables b w (suc (suc (suc (suc x)))) t small free = absurd (omega arith)

resv_released : (tables : Tables) (b : BoxId) (w : ResvWord) (x : ℕ) (t : TrainId) → x < 4 → arm_in w x ≡ Some t
    → resv_move tables b w (with_arm w x None) ≡ Some (moves.Release t (segment_of tables b x) b)
resv_released tables b w zero t small held = rw held refl
resv_released tables b w (suc zero) t small held = rw (arm_same tables b 0 w.arm0, held) refl
resv_released tables b w (suc (suc zero)) t small held = rw (arm_same tables b 0 w.arm0, arm_same tables b 1 w.arm1, held) refl
resv_released tables b w (suc (suc (suc zero))) t small held =
    rw (arm_same tables b 0 w.arm0, arm_same tables b 1 w.arm1, arm_same tables b 2 w.arm2, held) refl
resv_released tables b w (suc (suc (suc (suc x)))) t small held = absurd (omega arith)

other_number : (u t : TrainId) → u ≢ t → u.0 ≢ t.0
other_number u t differ = λ same. differ (ap (λ (n : ℕ). let made : TrainId = record { 0 = n } in made) same)

both : (a b c d : Bool) → a ≡ c → b ≡ d → (c && d) ≡ true → (a && b) ≡ true
both a b c d p q e = rw (p, q) e

refusable : (verb is : Verb) → verb ≡ is → IsRefusable is → IsRefusable verb
refusable verb is same may = subst IsRefusable (sym same) may

pub box_label : (tables : Tables) (lay : Layout) (s : State) (x : BoxTable) (m after : BoxMind) (seen left : Word)
    → IsBoxHere tables lay s x m → StateSays s seen → BoxStep x m seen left after → IsLabel tables s (nodes.Box x.number) (Box after) seen left
box_label tables lay s x m after seen left here says (take t l waiting to arms) =
    record {
      step = take_label x.number.0 t.0 l;
      fits = (
        ap (λ (n : BoxMind). n.work) here.mind,
        says,
        ap (λ (n : BoxId). n.0) to,
        rw to
            (both ((line_of tables).has_arm x.number.0 l.x.0) ((line_of tables).has_arm x.number.0 l.y.0) (nat_lt l.x.0 (arms_of x.kind))
            (nat_lt l.y.0 (arms_of x.kind)) (here.arms l.x.0) (here.arms l.y.0) arms),
      );
      leaves = rw here.mind refl;
      moves = refl;
      by = refl;
    }
box_label tables lay s x m after seen left here says (reserve t l waiting w verb free) =
    let small : l.x.0 < 4 = letter_arm x l here.work.1 in
    record {
      step = grant_label x.number.0 t.0 l;
      fits = (ap (λ (n : BoxMind). n.work) here.mind, verb, says l.x.0 ∙ four_arms w l.x.0 small ∙ free);
      leaves = rw (here.mind, new_resv s.resv x.number.0 l.x.0 w (Some t) small says) refl;
      moves = sym (resv_reserved tables x.number w l.x.0 t small free);
      by = refl;
    }
box_label tables lay s x m after seen left here says (refuse t u l waiting w verb held differ) =
    let small : l.x.0 < 4 = letter_arm x l here.work.1 in
    record {
      step = refuse_label x.number.0 t.0 l u;
      fits = (ap (λ (n : BoxMind). n.work) here.mind, verb, says l.x.0 ∙ four_arms w l.x.0 small ∙ held, other_number u t differ);
      leaves =
          let with_resv : (ℕ → ℕ → Option TrainId) → State = λ f. record s { boxes = put s.boxes x.number.0 (box_at (Say t l (No u)) waiting); resv = f } in
          rw here.mind (ap with_resv (same_resv s.resv x.number.0 w says));
      moves = sym (resv_same tables x.number w);
      by = refl;
    }
box_label tables lay s x m after seen left here says (release t l waiting w verb held) =
    let small : l.x.0 < 4 = letter_arm x l here.work.1 in
    record {
      step = release_label x.number.0 t.0 l;
      fits = (ap (λ (n : BoxMind). n.work) here.mind, verb, says l.x.0 ∙ four_arms w l.x.0 small ∙ held);
      leaves = rw (here.mind, new_resv s.resv x.number.0 l.x.0 w None small says) refl;
      moves = sym (resv_released tables x.number w l.x.0 t small held);
      by = refl;
    }
box_label tables lay s x m after seen left here says (lock t l side verb joined) =
    record {
      step = lock_now_label x.number.0 t.0 l side;
      fits = (here.mind, verb, says, rw here.kind joined);
      leaves = rw here.mind refl;
      moves = refl;
      by = refl;
    }
box_label tables lay s x m after seen left here says (ask t l side verb apart joined) =
    record {
      step = lock_ask_label x.number.0 t.0 l side;
      fits = (here.mind, verb, says, rw here.kind apart, rw here.kind joined);
      leaves = refl;
      moves = refl;
      by = refl;
    }
box_label tables lay s x m after seen left here says (moved p) =
    record { step = lock_moved_label x.number.0 p; fits = (here.mind, says); leaves = refl; moves = refl; by = refl }
box_label tables lay s x m after seen left here says (unlock t l side verb joined) =
    record {
      step = unlock_label x.number.0 t.0 l side;
      fits = (here.mind, verb, says, rw here.kind joined);
      leaves = rw here.mind refl;
      moves = refl;
      by = refl;
    }
box_label tables lay s x m after seen left here says (say_yes t l waiting) =
    record {
      step = say_yes_label x.number.0 t.0 l;
      fits = (ap (λ (n : BoxMind). n.work) here.mind, says);
      leaves = rw here.mind refl;
      moves = refl;
      by = refl;
    }
box_label tables lay s x m after seen left here says (say_refused t u l waiting verb) =
    record {
      step = say_no_label x.number.0 t.0 l u;
      fits = (ap (λ (n : BoxMind). n.work) here.mind, refusable l.verb verbs.Reserve verb tt, says);
      leaves = rw here.mind refl;
      moves = rw (verb, here.work.1.to) refl;
      by = refl;
    }
box_label tables lay s x m after seen left here says (say_barred t u l waiting verb) =
    record {
      step = say_no_label x.number.0 t.0 l u;
      fits = (ap (λ (n : BoxMind). n.work) here.mind, refusable l.verb verbs.Lock verb tt, says);
      leaves = rw here.mind refl;
      moves = rw (verb, here.work.1.to) refl;
      by = refl;
    }
box_label tables lay s x m after seen left here says (busy t l p verb differ) =
    record {
      step = busy_label x.number.0 t.0 l p;
      fits = (here.mind, verb, says, other_number p.train t differ);
      leaves =
          let with_lock : (ℕ → LockWord) → State = λ f. record s { boxes = put s.boxes x.number.0 (box_at (Say t l (No p.train)) None); lock = f } in
          rw here.mind (ap with_lock (same_lock s.lock x.number.0 (Locked p) says));
      moves = refl;
      by = refl;
    }

pub machine_label : (tables : Tables) (s : State) (b : BoxId) (m after : MachineMind) (seen left : Word) → StateSays s seen
    → MachineStep b m seen left after → IsLabel tables s (nodes.Machine b) (Machine after) seen left
machine_label tables s b m after seen left says (throw mind p) = record { step = throw_label b.0 p; fits = says; leaves = refl; moves = refl; by = refl }
machine_label tables s b m after seen left says (settle mind p) = record { step = settle_label b.0 p; fits = says; leaves = refl; moves = refl; by = refl }
