-- What is kept of the nodes stays right, and what a glance by it tells.
use Rattle.std.proofs.Common.{◌≡◌, ℕ, ◌<◌, Bool, true, false, List, length, slice_set, slice_get, slice_index_or, replicate, Option, Some, None, is_some, refl, sym, ap, subst, ◌∙◌, inl, inr, arith}
use Rattle.std.proofs.lemmas.Bool.{cases_eq}
use Rattle.std.proofs.lemmas.List.{length-set, length-replicate, get_or-set_same, get_or-set_other, get_or-replicate}
use Rattle.std.proofs.lemmas.Option.{slice_get_within}
use Rattle.rl_base.specs.declared.ids.BoxId.{BoxId}
use Rattle.rl_base.specs.declared.ids.WordNo.{WordNo}
use Rattle.rl_base.specs.declared.layout.NodeKind.TheVariants as nodes
use Rattle.rl_base.specs.declared.layout.WordKind.{WordKind}
use Rattle.rl_base.specs.Layout.{node_count}
use Rattle.rl_words.specs.declared.lock.Path.{Path}
use Rattle.rl_tables.specs.declared.table.Tables.{Tables}
use Rattle.rl_tables.specs.declared.table.BoxTable.{BoxTable}
use Rattle.rl_tables.specs.Starts.{layout_of}
use Rattle.rl_box.specs.declared.mind.BoxMind.{BoxMind}
use Rattle.rl_box.specs.declared.mind.Work.{Work}
use Rattle.rl_box.specs.declared.mind.Work.TheVariants.{Ready, Serve, Say}
use Rattle.rl_box.specs.Glance.{may_step}
use Rattle.rl_box.specs.Steps.{box_step}
use Rattle.rl_steps.specs.declared.mind.Mind.{Mind}
use Rattle.rl_steps.specs.declared.mind.Mind.TheVariants.{Train, Track, Box, Machine}
use Rattle.rl_steps.specs.Numbers.{node_at}
use Rattle.rl_steps.specs.State.{CoreState}
use Rattle.rl_steps.specs.Turn.{next_place}
use Rattle.rl_steps.specs.Step.{is_ready, has_nothing}
use Rattle.rl_core.specs.declared.speed.Glance.TheVariants as glances
use Rattle.rl_core.specs.declared.look.Look.{Look}
use Rattle.rl_core.specs.declared.look.Look.TheVariants.{Rests, Idles, Steps}
use Rattle.rl_core.specs.declared.speed.Watch.{Watch}
use Rattle.rl_core.specs.declared.speed.Watch.TheVariants as watches
use Rattle.rl_core.specs.declared.speed.Rare.TheVariants as rares
use Rattle.rl_core.specs.Cores.{Core, state_of, HasSizes}
use Rattle.rl_core.specs.Looks.{IsLook}
use Rattle.rl_core.specs.Speed.{WatchesWord, IsWatch, AreWatches, IsGlance, waits_of, watch_by, watch_scanning}
use Rattle.rl_core.proofs.Looking.{Looked}

-- at the start every node has to look closely
pub watches_start : (tables : Tables) (minds : List Mind) → AreWatches tables minds (replicate (node_count (layout_of tables)) (watches.Rarely rares.Closely))
watches_start tables minds =
    record {
      size = length-replicate (node_count (layout_of tables)) (watches.Rarely rares.Closely);
      each = λ n there. rw (get_or-replicate (node_count (layout_of tables)) n (watches.Rarely rares.Closely) (watches.Rarely rares.Closely) there) tt;
    }

-- a watch that is right of its node, where the other minds stay
watches_set : (tables : Tables) (old minds : List Mind) (ws : List Watch) (n : ℕ) (watch : Watch) → n < node_count (layout_of tables)
    → AreWatches tables old ws
    → ((m : ℕ) → (m ≡ n → ⊥) → slice_index_or minds m (Machine record {}) ≡ slice_index_or old m (Machine record {}))
    → IsWatch tables n (slice_index_or minds n (Machine record {})) watch → AreWatches tables minds (slice_set ws n watch)
watches_set tables old minds ws n watch there are others is =
    record {
      size = length-set ws n watch ∙ are.size;
      each = λ m within.
          elim (cases_eq m n) [
            | inl same ↦ rw (same, get_or-set_same ws n watch (watches.Rarely rares.Closely) (omega (arith, are.size))) is
            | inr other ↦ rw (get_or-set_other ws n m watch (watches.Rarely rares.Closely) other, others m other) (are.each m within)
          ];
    }

pub watches_kept : (tables : Tables) (minds : List Mind) (ws : List Watch) (n : ℕ) (watch : Watch) → n < node_count (layout_of tables)
    → AreWatches tables minds ws → IsWatch tables n (slice_index_or minds n (Machine record {})) watch → AreWatches tables minds (slice_set ws n watch)
watches_kept tables minds ws n watch there are is = watches_set tables minds minds ws n watch there are (λ m other. refl) is

-- of a node with a new mind nothing is known
pub watches_put : (tables : Tables) (minds : List Mind) (ws : List Watch) (n : ℕ) (mind : Mind) → n < node_count (layout_of tables)
    → AreWatches tables minds ws → AreWatches tables (slice_set minds n mind) (slice_set ws n (watches.Rarely rares.Closely))
watches_put tables minds ws n mind there are =
    watches_set tables minds (slice_set minds n mind) ws n (watches.Rarely rares.Closely) there are
    (λ m other. get_or-set_other minds n m mind (Machine record {}) other) tt

-- what is kept of a node that isn't a ready box is right, by what it saw wherever it scans
pub watch_seen : (core : Core) (n : ℕ) (look : Look) → HasSizes core → is_ready ((state_of core).minds n) ≡ false
    → ((scan : ℕ) → IsLook core.line (state_of core) n scan look) → IsWatch core.line n ((state_of core).minds n) (watch_by look)
watch_seen core n Rests sizes unready looks = (looks, unready)
watch_seen core n (Idles w was) sizes unready looks =
    let within : w.0 < length core.words = slice_get_within core.words w.0 was (looks 0).0.word in
    record { target = λ scan. (looks scan).0.target; within = omega (arith, sizes.words); none = (looks 0).1; unready = unready }
watch_seen core n (Steps w was payload mind) sizes unready looks = tt

-- and of a ready box
pub watch_box : (tables : Tables) (n : ℕ) (mind : Mind) (b : BoxId) (m : BoxMind) → node_at (layout_of tables) n ≡ Some (nodes.Box b) → mind ≡ Box m
    → is_ready mind ≡ true → IsWatch tables n mind (watch_scanning b (is_some m.waiting))
watch_box tables n mind b m at is ready = by (is_some m.waiting) (sym (ap waits_of is))
  where
    by : (waits : Bool) → waits ≡ waits_of mind → IsWatch tables n mind (watch_scanning b waits)
    by true same = (at, ready, same)
    by false same = (at, ready, same)

-- the word that is watched is as it was
pub glanced_at : (core : Core) (n scan : ℕ) (w : WordNo) (was seen : ℕ) → WatchesWord core.line n ((state_of core).minds n) w.0 was
    → slice_get core.words w.0 ≡ Some seen → was ≡ seen → IsGlance core.line (state_of core) n scan (glances.Idles w was)
glanced_at core n scan w was seen watch there same =
    record { look = (record { target = watch.target scan; word = there ∙ ap Some (sym same) }, watch.none); ready = sym watch.unready; next = tt }

-- a ready box, and a word on which none has a step
pub record IsReadyBox (c : CoreState) (n : ℕ) (m : BoxMind) : Type 0 where
  pub mind : c.minds n ≡ Box m
  pub ready : m.work ≡ Ready

pub ready_box : (c : CoreState) (n : ℕ) → is_ready (c.minds n) ≡ true → (m : BoxMind) × IsReadyBox c n m
ready_box c n ready = by (c.minds n) refl
  where
    nothing : (work : Work) → has_nothing work ≡ true → work ≡ Ready
    nothing Ready is = refl
    nothing (Serve t l) is = absurd (cc)
    nothing (Say t l answer) is = absurd (cc)

    by : (mind : Mind) → c.minds n ≡ mind → (m : BoxMind) × IsReadyBox c n m
    by (Box m) is = (m, record { mind = is; ready = nothing m.work (sym (ap is_ready is) ∙ ready) })
    by (Train m) is = absurd (cc)
    by (Track m) is = absurd (cc)
    by (Machine m) is = absurd (cc)

-- for which path a box waits is nothing that a glance sees
whichever : (b : BoxId) (one other : Option Path) (payload : ℕ) → is_some one ≡ is_some other → may_step b Ready one payload ≡ false
    → may_step b Ready other payload ≡ false
whichever b None None payload same says = says
whichever b None (Some q) payload same says = absurd (cc)
whichever b (Some p) None payload same says = absurd (cc)
whichever b (Some p) (Some q) payload same says = says

pub no_step : ((x : BoxTable) (mind : BoxMind) (kind : WordKind) (payload : ℕ) → may_step x.number mind.work mind.waiting payload ≡ false
    → box_step x mind kind payload ≡ None) → (x : BoxTable) (m other : BoxMind) (b : BoxId) (kind : WordKind) (payload : ℕ) → x.number ≡ b
    → m.work ≡ Ready → other.work ≡ Ready → is_some other.waiting ≡ is_some m.waiting → may_step b other.work other.waiting payload ≡ false
    → box_step x m kind payload ≡ None
no_step law x m other b kind payload number ready too same says =
    let seen : may_step b Ready other.waiting payload ≡ false = subst (λ (work : Work). may_step b work other.waiting payload ≡ false) too says in
    law x m kind payload (rw (number, ready) (whichever b other.waiting m.waiting payload same seen))

pub glanced : (tables : Tables) (c : CoreState) (n scan was next : ℕ) (w : WordNo) → Looked tables c n scan w.0 was None → is_ready (c.minds n) ≡ true
    → next ≡ next_place tables scan → IsGlance tables c n scan (glances.Scans w was next)
glanced tables c n scan was next w looks ready is = record { look = (looks.sees, looks.step_is); ready = sym ready; next = is }
