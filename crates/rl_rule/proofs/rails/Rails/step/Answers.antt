use Rattle.std.proofs.Common.{◌≡◌, ℕ, ◌<◌, ◌∙◌, sym, ap, subst, arith}
use Rattle.rl_record.specs.declared.event.Event.{Event}
use Rattle.rl_rule.specs.Views.{event_by, stepped}
use Rattle.rl_rule.specs.declared.views.Walk.{Walk}
use Rattle.rl_rule.specs.Moments.{IsSeen}
use Rattle.rl_rule.specs.Plays.{Sat}
use Rattle.rl_rule.proofs.Known.{ChainLaws, MergeLaws, MomentLaws}
use Rattle.rl_rule.proofs.StepKeeps.{step_keeps}
use Rattle.rl_rule.proofs.Walks.{no_load, step_here, event_same}
use Rattle.rl_rule.proofs.rails.Rails.step.Goals as goal

pub store-requires : goal.store-requires
store-requires c =
    let rails = c.args.self.now in
    let node = c.args.seat.now in
    let chains : ChainLaws = record {
      chained = c.chains_of_runs.ensures.chained;
      left = c.chains_of_runs.ensures.left;
      clocks = c.chains_of_runs.ensures.clocks;
    } in
    let merges : MergeLaws = record {
      merge = c.chained_runs.ensures.merge;
      run = c.chained_runs.ensures.run;
      words = c.chained_runs.ensures.words;
      minds = c.chained_runs.ensures.minds;
      clocks = c.chained_runs.ensures.clocks;
    } in
    let moments : MomentLaws = record { chains = chains; merges = merges; runs = c.sound_runs.ensures } in
    let step = step_here node.seat.me.0.line node.seat.me.0.walk c.requires.step.0 c.in-Some.load node.load c.args.now c.args.mind node.load_is c.in-Some.is
    c.requires.step.1 in
    let event = event_same node.seat.me.0.walk c.in-Some.load node.node c.args.now node.clock c.next_stamp-stamp.result c.word_of-new.result node.node_is
    node.clock_is c.next_stamp-stamp.ensures c.word_of-new.ensures.word in
    let words : node.seat.table_id.words ≡ rails.table.shared.table_id.words = ap (λ t. t.words) c.requires.own in
    let there : c.in-Some.load.word.0 < node.seat.table_id.words = node.word_there c.in-Some.load c.in-Some.is in (
      c.requires.own,
      omega arith,
      step_keeps record { runs = c.sound_runs.ensures; steps = c.steps_of_owners.ensures; owners = c.one_owner.ensures } moments
          rails.table.shared.key.line.value rails.table.shared.key.tries rails.table.shared.table_id.slots node.seat.id c.word_of-new.result node.seat.me
          c.in-Some.load c.args.now c.args.mind
          node.role step c.requires.room (sym (ap (λ (e : Event). e.now) event)),
    )

pub invariant_of-seat : goal.invariant_of-seat
invariant_of-seat c =
    let old = c.args.seat.now in
    let step = step_here old.seat.me.0.line old.seat.me.0.walk c.requires.step.0 c.in-Some.load old.load c.args.now c.args.mind old.load_is c.in-Some.is
    c.requires.step.1 in
    let event = event_same old.seat.me.0.walk c.in-Some.load old.node c.args.now old.clock c.next_stamp-stamp.result c.word_of-new.result old.node_is
    old.clock_is c.next_stamp-stamp.ensures c.word_of-new.ensures.word in
    let told = c.store.ensures.2 c.in-Some.load c.args.now c.args.mind step in
    let after = told.0 in
    let stamp : (event_by old.seat.me.0.walk c.in-Some.load c.args.now).stamp ≡ c.next_stamp-stamp.result = ap (λ (e : Event). e.stamp) event in
    record {
      role = ap (λ (m : Sat). m.0.role) after ∙ old.role;
      slots = ap (λ (m : Sat). m.1) after ∙ old.slots;
      node_is = ap (λ (m : Sat). m.0.walk.node) after ∙ old.node_is;
      clock_is = ap (λ (m : Sat). m.0.walk.clock) after ∙ stamp;
      load_is = ap (λ (m : Sat). m.0.walk.load) after;
      clock_fits = omega (arith, told.1);
      stamp_fits = λ l none. absurd (no_load l none);
      word_there = λ l none. absurd (no_load l none);
    }

pub returns-clause-line : goal.returns-clause-line
returns-clause-line c =
    let old = c.args.seat.now in
    let step = step_here old.seat.me.0.line old.seat.me.0.walk c.requires.step.0 c.in-Some.load old.load c.args.now c.args.mind old.load_is c.in-Some.is
    c.requires.step.1 in
    ap (λ (m : Sat). m.0.line) (c.store.ensures.2 c.in-Some.load c.args.now c.args.mind step).0

pub returns-clause-walk : goal.returns-clause-walk
returns-clause-walk c =
    let old = c.args.seat.now in
    let step = step_here old.seat.me.0.line old.seat.me.0.walk c.requires.step.0 c.in-Some.load old.load c.args.now c.args.mind old.load_is c.in-Some.is
    c.requires.step.1 in
    let event = event_same old.seat.me.0.walk c.in-Some.load old.node c.args.now old.clock c.next_stamp-stamp.result c.word_of-new.result old.node_is
    old.clock_is c.next_stamp-stamp.ensures c.word_of-new.ensures.word in
    ap (λ (m : Sat). m.0.walk) (c.store.ensures.2 c.in-Some.load c.args.now c.args.mind step).0
    ∙ ap (λ (e : Event). stepped old.seat.me.0.walk e c.args.mind) event

pub returns-clause-tries : goal.returns-clause-tries
returns-clause-tries c =
    let old = c.args.seat.now in
    let step = step_here old.seat.me.0.line old.seat.me.0.walk c.requires.step.0 c.in-Some.load old.load c.args.now c.args.mind old.load_is c.in-Some.is
    c.requires.step.1 in
    ap (λ (m : Sat). m.0.tries) (c.store.ensures.2 c.in-Some.load c.args.now c.args.mind step).0

pub returns-clause-moment : goal.returns-clause-moment
returns-clause-moment c =
    let old = c.args.seat.now in
    let step = step_here old.seat.me.0.line old.seat.me.0.walk c.requires.step.0 c.in-Some.load old.load c.args.now c.args.mind old.load_is c.in-Some.is
    c.requires.step.1 in
    let event = event_same old.seat.me.0.walk c.in-Some.load old.node c.args.now old.clock c.next_stamp-stamp.result c.word_of-new.result old.node_is
    old.clock_is c.next_stamp-stamp.ensures c.word_of-new.ensures.word in
    let told = c.store.ensures.2 c.in-Some.load c.args.now c.args.mind step in
    let made = event_by old.seat.me.0.walk c.in-Some.load c.args.now in
    let walk = ap (λ (m : Sat). m.0.walk) told.0 in
    let now : made.now ≡ c.word_of-new.result = ap (λ (e : Event). e.now) event in
    subst (λ (k : Walk). IsSeen old.seat.me.0.line old.seat.me.0.tries k c.in-Some.load.word.0 c.word_of-new.result) (sym walk)
    (subst (λ (v : ℕ). IsSeen old.seat.me.0.line old.seat.me.0.tries (stepped old.seat.me.0.walk made c.args.mind) c.in-Some.load.word.0 v) now told.2)
