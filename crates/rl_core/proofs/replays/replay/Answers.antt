use Rattle.std.proofs.Common.{◌≡◌, ℕ, length, take, inl, Result, Err, List, ap, subst, ◌∙◌, arith}
use Rattle.rl_record.specs.declared.event.Event.{Event}
use Rattle.rl_core.specs.Cores.{Core, LeadsTo}
use Rattle.rl_core.specs.declared.replays.ReplayFault.{ReplayFault}
use Rattle.rl_core.specs.declared.replays.ReplayFault.TheVariants.{At}
use Rattle.rl_core.specs.Replays.{replayed, IsFirstMisfit}
use Rattle.rl_core.proofs.Replaying.{still_few, one_more, first_misfit, all_made, no_misfit, one_misfit}
use Rattle.rl_core.proofs.replays.replay.Goals as goal

-- what the loop over the slice's items reads past their end
abbrev none : Event
none = record { node = record { 0 = 0 }; stamp = 0; word = record { 0 = 0 }; was = 0; now = 0 }

abbrev fault : ℕ → Result Core ReplayFault
fault i = Err (At i)

pub redo-requires : goal.redo-requires
redo-requires c =
    let made = still_few c.as_slice-event-items.result.now c.loop-i.i c.loop-i.core c.loop-i.invariant.leads c.loop-i.auto.i-end in
    let all = ap length c.as_slice-event-items.ensures in
    record { few = omega arith }

pub loop-i-preserved : goal.loop-i-preserved
loop-i-preserved c = record {
  leads = one_more c.as_slice-event-items.result.now c.loop-i.i _ c.redo.new.self c.loop-i-test.true
      (c.redo.ensures.made c.if-not-redo.false (replayed (take c.loop-i.i c.as_slice-event-items.result.now)) c.loop-i.invariant.leads);
  line = c.redo.ensures.line ∙ c.loop-i.invariant.line;
  tries = c.redo.ensures.tries ∙ c.loop-i.invariant.tries;
}

pub returns-then-not-redo-clause-at : goal.returns-then-not-redo-clause-at
returns-then-not-redo-clause-at c = λ i same.
    let at : c.loop-i.i ≡ i = cc in
    subst (λ (k : ℕ). IsFirstMisfit c.args.line.now c.args.tries c.args.events.now k) at
    (first_misfit c.args.line.now c.args.tries c.as_slice-event-items.result.now c.args.events.now c.loop-i.i none c.loop-i.core c.redo.result
    c.as_slice-event-items.ensures c.loop-i-test.true c.loop-i.invariant.leads c.loop-i.invariant.line c.loop-i.invariant.tries c.if-not-redo.true
    c.redo.ensures.fits.1)

pub returns-then-not-redo-clause-runs : goal.returns-then-not-redo-clause-runs
returns-then-not-redo-clause-runs c = λ run i same.
    no_misfit c.args.line.now c.args.tries c.args.events.now c.loop-i.i run
    (first_misfit c.args.line.now c.args.tries c.as_slice-event-items.result.now c.args.events.now c.loop-i.i none c.loop-i.core c.redo.result
    c.as_slice-event-items.ensures c.loop-i-test.true c.loop-i.invariant.leads c.loop-i.invariant.line c.loop-i.invariant.tries c.if-not-redo.true
    c.redo.ensures.fits.1)

pub returns-then-not-redo-clause-misfits : goal.returns-then-not-redo-clause-misfits
returns-then-not-redo-clause-misfits c = λ i is.
    inl (ap (λ (k : ℕ). fault k) (one_misfit c.args.line.now c.args.tries c.args.events.now c.loop-i.i i
    (first_misfit c.args.line.now c.args.tries c.as_slice-event-items.result.now c.args.events.now c.loop-i.i none c.loop-i.core c.redo.result
    c.as_slice-event-items.ensures c.loop-i-test.true c.loop-i.invariant.leads c.loop-i.invariant.line c.loop-i.invariant.tries c.if-not-redo.true
    c.redo.ensures.fits.1) is))

pub returns-clause-run : goal.returns-clause-run
returns-clause-run c =
    subst (λ (l : List Event). LeadsTo (replayed l) c.loop-i.core) c.as_slice-event-items.ensures
    (all_made c.as_slice-event-items.result.now c.loop-i.i c.loop-i.core c.loop-i-test.false c.loop-i.auto.i-end c.loop-i.invariant.leads)

pub returns-clause-misfits : goal.returns-clause-misfits
returns-clause-misfits c = λ i is.
    let leads = subst (λ (l : List Event). LeadsTo (replayed l) c.loop-i.core) c.as_slice-event-items.ensures
    (all_made c.as_slice-event-items.result.now c.loop-i.i c.loop-i.core c.loop-i-test.false c.loop-i.auto.i-end c.loop-i.invariant.leads) in
    absurd (no_misfit c.args.line.now c.args.tries c.args.events.now i (rw (← c.loop-i.invariant.line, ← c.loop-i.invariant.tries) leads.run) is)
