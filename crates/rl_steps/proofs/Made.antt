-- An event that fits, taken apart: the word before it, its node's step, its stamp and the word after it.
use Rattle.std.proofs.Common.{◌≡◌, ℕ, Some, option_map, slice_get, refl, sym, ap}
use Rattle.rl_record.specs.declared.event.Event.{Event}
use Rattle.rl_words.specs.Stamps.{payload_in, stamped}
use Rattle.rl_tables.specs.declared.table.Tables.{Tables}
use Rattle.rl_steps.specs.declared.mind.Mind.{Mind}
use Rattle.rl_steps.specs.Step.{node_step}
use Rattle.rl_steps.specs.State.{CoreState, event_at, next_stamp, mind_after}
use Rattle.rl_steps.specs.Run.{EventFits}
use Rattle.rl_steps.proofs.Options.{from_map, from_then}

pub record IsMade (tables : Tables) (c : CoreState) (e : Event) : Type 0 where
  pub made : ℕ × Mind
  pub was : slice_get c.words e.word.0 ≡ Some e.was
  pub step : node_step tables e.node.0 (c.minds e.node.0) e.word.0 (payload_in e.was) ≡ Some made
  pub stamp : e.stamp ≡ next_stamp (c.clocks e.node.0) e.was
  pub now : e.now ≡ stamped e.stamp made.0
  pub mind : mind_after tables c e ≡ made.1

made_at : (tables : Tables) (c : CoreState) (e : Event) (was : ℕ) (made : ℕ × Mind) →
    slice_get c.words e.word.0 ≡ Some was →
    node_step tables e.node.0 (c.minds e.node.0) e.word.0 (payload_in was) ≡ Some made →
    event_at e.node.0 (next_stamp (c.clocks e.node.0) was) e.word.0 was made.0 ≡ e →
    IsMade tables c e
made_at tables c e was made read step is =
    let same_was : was ≡ e.was = ap (λ (x : Event). x.was) is in
    let step_there : node_step tables e.node.0 (c.minds e.node.0) e.word.0 (payload_in e.was) ≡ Some made = rw (← same_was) step in
    record {
      made = made;
      was = rw (← same_was) read;
      step = step_there;
      stamp = rw (← same_was) (sym (ap (λ (x : Event). x.stamp) is));
      now = cc (ap (λ (x : Event). x.now) is, ap (λ (x : Event). x.stamp) is);
      mind = rw step_there refl;
    }

pub fits_made : (tables : Tables) (c : CoreState) (e : Event) → EventFits tables c e → IsMade tables c e
fits_made tables c e fits =
    let read = from_then
    (λ was. option_map (λ (r : ℕ × Mind). event_at e.node.0 (next_stamp (c.clocks e.node.0) was) e.word.0 was r.0)
    (node_step tables e.node.0 (c.minds e.node.0) e.word.0 (payload_in was)))
    (slice_get c.words e.word.0) e fits in
    let stepped = from_map
    (λ (r : ℕ × Mind). event_at e.node.0 (next_stamp (c.clocks e.node.0) read.0) e.word.0 read.0 r.0)
    (node_step tables e.node.0 (c.minds e.node.0) e.word.0 (payload_in read.0)) e read.2 in
    made_at tables c e read.0 stepped.0 read.1 stepped.1 stepped.2
