-- A run with an event that fits leads on: to the core after the step.
use Rattle.std.proofs.Common.{◌≡◌, ℕ, ◌<◌, List, ◌∷◌, length, slice_get, slice_set, slice_index_or, Some, refl, sym, ◌∙◌, inl, inr, arith}
use Rattle.std.proofs.Math.Path.{fun_ext}
use Rattle.std.proofs.lemmas.Bool.{cases_eq, ne_eqb}
use Rattle.std.proofs.lemmas.Bool.Decides.{nat_tests}
use Rattle.std.proofs.lemmas.List.{get_or-set_same, get_or-set_other}
use Rattle.rl_base.specs.Layout.{node_count}
use Rattle.rl_words.specs.Stamps.{payload_in}
use Rattle.rl_tables.specs.Starts.{layout_of}
use Rattle.rl_steps.specs.declared.mind.Mind.{Mind}
use Rattle.rl_steps.specs.declared.mind.Mind.TheVariants.{Machine}
use Rattle.rl_steps.specs.Step.{node_step}
use Rattle.rl_steps.specs.State.{after, mind_after, with_value}
use Rattle.rl_steps.specs.Run.{EventFits}
use Rattle.rl_steps.specs.Turn.{Drive}
use Rattle.rl_core.specs.Cores.{Core, state_of, LeadsTo, HasSizes}
use Rattle.rl_core.specs.Made.{stamp_of, event_in, made}

-- a table after a write is the function with that value
table_put : {A : Type 0} (xs : List A) (n : ℕ) (v d : A) → n < length xs → (λ m. slice_index_or (slice_set xs n v) m d)
    ≡ with_value (λ m. slice_index_or xs m d) n v
table_put xs n v d within =
    fun_ext (λ m. elim (cases_eq m n) [
      | inl same ↦ rw same (get_or-set_same xs n v d within ∙ sym (put_same (λ m. slice_index_or xs m d) n v))
      | inr other ↦ get_or-set_other xs n m v d other ∙ sym (put_other (λ m. slice_index_or xs m d) n v m other)
    ])
  where
    put_same : {A : Type 0} (f : ℕ → A) (n : ℕ) (v : A) → with_value f n v n ≡ v
    put_same f n v = grind (arith, nat_tests)

    put_other : {A : Type 0} (f : ℕ → A) (n : ℕ) (v : A) (m : ℕ) → (m ≡ n → ⊥) → with_value f n v m ≡ f m
    put_other f n v m other = rw (ne_eqb m n other) refl

-- the event of the step fits the state of the core
pub fits_state : (core : Core) (n w was payload : ℕ) (mind : Mind) → slice_get core.words w ≡ Some was
    → node_step core.line n ((state_of core).minds n) w (payload_in was) ≡ Some (payload, mind) → EventFits core.line (state_of core) (event_in core n w was payload)
fits_state core n w was payload mind word step = rw (word, step) refl

mind_made : (core : Core) (n w was payload : ℕ) (mind : Mind) → node_step core.line n ((state_of core).minds n) w (payload_in was) ≡ Some (payload, mind)
    → mind_after core.line (state_of core) (event_in core n w was payload) ≡ mind
mind_made core n w was payload mind step = rw step refl

-- the state of the core after the step is the state after its event
state_made : (core : Core) (n w was payload : ℕ) (mind : Mind) → HasSizes core → n < node_count (layout_of core.line)
    → node_step core.line n ((state_of core).minds n) w (payload_in was) ≡ Some (payload, mind)
    → state_of (made core n w was payload mind) ≡ after core.line (state_of core) (event_in core n w was payload)
state_made core n w was payload mind sizes there step =
    let minds : (λ m. slice_index_or (slice_set core.minds n mind) m (Machine record {}))
    ≡ with_value (λ m. slice_index_or core.minds m (Machine record {})) n mind =
    table_put core.minds n mind (Machine record {}) (omega (arith, sizes.minds)) in
    let clocks : (λ m. slice_index_or (slice_set core.clocks n (stamp_of core n was)) m 0)
    ≡ with_value (λ m. slice_index_or core.clocks m 0) n (stamp_of core n was) =
    table_put core.clocks n (stamp_of core n was) 0 (omega (arith, sizes.clocks)) in
    rw (minds, clocks, mind_made core n w was payload mind step) refl

-- the core after the step is reached by the run with the event
pub leads_on : (core : Core) (drive : Drive) (n w was payload : ℕ) (mind : Mind) → HasSizes core → n < node_count (layout_of core.line) → LeadsTo drive core
    → slice_get core.words w ≡ Some was → node_step core.line n ((state_of core).minds n) w (payload_in was) ≡ Some (payload, mind)
    → LeadsTo (record drive { events = event_in core n w was payload ∷ drive.events }) (made core n w was payload mind)
leads_on core drive n w was payload mind sizes there leads word step =
    let fits : EventFits core.line (state_of core) (event_in core n w was payload) = fits_state core n w was payload mind word step in
    record {
      run = (leads.run, rw leads.state fits);
      state = rw leads.state (sym (state_made core n w was payload mind sizes there step));
      scans = leads.scans;
      events = omega (arith, leads.events);
    }
