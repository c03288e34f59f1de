-- What is so of a core that is reached, and that it is still reached after a step and after a scan.
use Rattle.std.proofs.Common.{◌≡◌, ℕ, ◌^◌, ◌<◌, ◌≤◌, List, ◌∷◌, length, slice_get, slice_index_or, Some, inl, inr, arith}
use Rattle.std.proofs.lemmas.Bool.{cases_eq}
use Rattle.std.proofs.lemmas.Bool.Decides.{nat_tests}
use Rattle.std.proofs.lemmas.Option.{get_or_from_slice_get}
use Rattle.rl_base.specs.Layout.{node_count}
use Rattle.rl_record.specs.declared.event.Event.{Event}
use Rattle.rl_words.specs.Stamps.{payload_in}
use Rattle.rl_tables.specs.declared.table.Tables.{Tables}
use Rattle.rl_tables.specs.Kept.{IsLine}
use Rattle.rl_tables.specs.Starts.{layout_of}
use Rattle.rl_steps.specs.declared.mind.Mind.{Mind}
use Rattle.rl_steps.specs.Step.{node_step}
use Rattle.rl_steps.specs.State.{with_value}
use Rattle.rl_steps.specs.Run.{IsRun, state}
use Rattle.rl_steps.specs.Sound.{IsSound}
use Rattle.rl_steps.specs.Turn.{next_place}
use Rattle.rl_core.specs.Cores.{Core, state_of, IsReached}
use Rattle.rl_core.specs.Made.{event_in, made, advanced}
use Rattle.rl_core.proofs.Onward.{leads_on}
use Rattle.rl_core.proofs.Turned.{leads_advanced, sizes_made, sizes_advanced}

pub reached_sound : ((tables : Tables) (tries : ℕ) (events : List Event) → IsLine tables → tries ≤ 1000 → length events < 2 ^ 32 → IsRun tables tries events
    → IsSound tables (length events) (state tables tries events)) → (core : Core) → IsReached core
    → IsSound core.line core.events (state_of core)
reached_sound law core reached =
    let few = reached.few in
    let count : core.events ≡ length reached.drive.events = reached.leads.events in
    let sound = law core.line core.tries reached.drive.events reached.line reached.few_tries (omega arith) reached.leads.run in
    rw (count, ← reached.leads.state) sound

pub reached_made : (core : Core) (n w was payload : ℕ) (mind : Mind) → IsReached core → n < node_count (layout_of core.line)
    → core.events < 4294967295 → slice_get core.words w ≡ Some was → node_step core.line n ((state_of core).minds n) w (payload_in was) ≡ Some (payload, mind)
    → IsReached (made core n w was payload mind)
reached_made core n w was payload mind reached there few word step =
    record {
      drive = record reached.drive { events = event_in core n w was payload ∷ reached.drive.events };
      leads = leads_on core reached.drive n w was payload mind reached.sizes there reached.leads word step;
      sizes = sizes_made core n w was payload mind reached.sizes;
      places = reached.places;
      line = reached.line;
      some_tries = reached.some_tries;
      few_tries = reached.few_tries;
      few = omega arith;
    }

-- the place of a reached core, and that the next one is a place too
pub place_is : (core : Core) (n : ℕ) → (reached : IsReached core) → n < node_count (layout_of core.line) → slice_index_or core.scans n 0 ≡ reached.drive.scans n
place_is core n reached there = get_or_from_slice_get core.scans n (reached.drive.scans n) 0 (reached.leads.scans n there)

pub place_within : (core : Core) (n : ℕ) → IsReached core → n < node_count (layout_of core.line) → slice_index_or core.scans n 0 ≤ length core.line.trains
place_within core n reached there =
    let is : slice_index_or core.scans n 0 ≡ reached.drive.scans n = place_is core n reached there in
    let within : reached.drive.scans n ≤ length core.line.trains = reached.places n there in
    omega arith

next_within : (tables : Tables) (place : ℕ) → next_place tables place ≤ length tables.trains
next_within tables place = omega arith

put_within : (scans : ℕ → ℕ) (n place limit : ℕ) → place ≤ limit → (m : ℕ) → scans m ≤ limit → with_value scans n place m ≤ limit
put_within scans n place limit small m le =
    elim (cases_eq m n) [
      | inl same ↦ grind (arith, nat_tests)
      | inr other ↦ grind (arith, nat_tests)
    ]

pub reached_advanced : (core : Core) (n : ℕ) → IsReached core → n < node_count (layout_of core.line) → IsReached (advanced core n)
reached_advanced core n reached there =
    record {
      drive = record reached.drive { scans = with_value reached.drive.scans n (next_place core.line (reached.drive.scans n)) };
      leads = leads_advanced core reached.drive n there reached.leads;
      sizes = sizes_advanced core n reached.sizes;
      places = λ m within. put_within reached.drive.scans n (next_place core.line (reached.drive.scans n)) (length core.line.trains)
          (next_within core.line (reached.drive.scans n)) m (reached.places m within);
      line = reached.line;
      some_tries = reached.some_tries;
      few_tries = reached.few_tries;
      few = reached.few;
    }
