-- What a step at one seat leaves of the other seats.
use Rattle.std.proofs.Common.{◌≡◌, ◌≢◌, ℕ, suc, ◌≤◌, ◌==◌, nat_lt, ◌&&◌, List, [], ◌∷◌, length, slice_get, slice_set}
use Rattle.std.proofs.Common.{Some, refl, sym, ap, ◌∙◌, subst, inl, inr, if◌then◌else◌, Bool, true, false, eq-eqb, arith}
use Rattle.std.proofs.lemmas.Bool.{cases_eq, ne_eqb}
use mathlib.Core.Option.{some}
use lib.ListN.{get_elem?}
use Rattle.atomic_table.proofs.Lists.{set_here, set_else}
use Rattle.rl_base.specs.declared.limits.TheConstants.{MAX_EVENTS}
use Rattle.rl_base.specs.Layout.{node_count}
use Rattle.rl_words.specs.Owner.{Owns}
use Rattle.rl_words.specs.Stamps.{payload_in}
use Rattle.rl_record.specs.declared.event.Event.{Event}
use Rattle.rl_record.specs.Merge.{history}
use Rattle.rl_tables.specs.declared.table.Tables.{Tables}
use Rattle.rl_tables.specs.Kept.{IsLine}
use Rattle.rl_tables.specs.Starts.{layout_of}
use Rattle.rl_steps.specs.Run.{state}
use Rattle.rl_steps.specs.State.{CoreState, start_mind, mind_after}
use Rattle.rl_steps.proofs.Options.{same_some, get_set_other}
use Rattle.rl_rule.specs.declared.views.Load.{Load}
use Rattle.rl_rule.specs.declared.views.Walk.{Walk}
use Rattle.rl_rule.specs.declared.views.Kept.{Kept}
use Rattle.rl_rule.specs.declared.views.View.{View}
use Rattle.rl_merge.proofs.Exchange.{put_other}
use Rattle.rl_rule.specs.declared.views.Role.{Role}
use Rattle.rl_rule.specs.declared.views.Role.TheVariants.{Root, Node, Spent}
use Rattle.rl_rule.specs.Loads.{most_events}
use Rattle.rl_rule.specs.Ruled.{IsFresh, IsWalk, IsKept, AreKept, Places, times, times_taken, Knows, IsRootAt, IsNodeAt}
use Rattle.rl_rule.proofs.Lists.{at_within, same_at}
use Rattle.rl_rule.proofs.Histories.{history_own, history_other, few_events}
use Rattle.rl_rule.proofs.Known.{OwnersAreOne}

-- a line has few nodes, so a log has not too many events
pub few_in_log : (tables : Tables) (log : List Event) (handed : ℕ) → IsLine tables → handed ≤ node_count (layout_of tables) → ((n : ℕ) → handed ≤ n →
    history n log ≡ []) → ((n : ℕ) → length (history n log) ≤ MAX_EVENTS) → length log ≤ most_events
few_in_log tables log handed line few unborn short =
    let boxes : length tables.boxes ≤ 128 = line.few_boxes in
    let trains : length tables.trains ≤ 32 = line.few_trains in
    few_events handed log (omega arith) unborn short

-- what a view knows by its role
pub as_role : (tables : Tables) (tries : ℕ) (log : List Event) (places : Places) (seat : ℕ) (view : View) (role : Role) → view.role ≡ role →
    Knows tables tries log places seat view view.role → Knows tables tries log places seat view role
as_role tables tries log places seat view role is knows = subst (λ (r : Role). Knows tables tries log places seat view r) is knows

pub from_role : (tables : Tables) (tries : ℕ) (log : List Event) (places : Places) (seat : ℕ) (view : View) (role : Role) → view.role ≡ role →
    Knows tables tries log places seat view role → Knows tables tries log places seat view view.role
from_role tables tries log places seat view role is knows = subst (λ (r : Role). Knows tables tries log places seat view r) (sym is) knows

pub as_view : (tables : Tables) (tries : ℕ) (log : List Event) (places : Places) (seat at : ℕ) (view other : View) → at ≡ seat → other ≡ view →
    Knows tables tries log places seat other other.role → Knows tables tries log places at view view.role
as_view tables tries log places seat at view other same is knows =
    subst (λ (k : ℕ). Knows tables tries log places k view view.role) (sym same)
    (subst (λ (u : View). Knows tables tries log places seat u u.role) is knows)

-- where each stands after a change of another view
pub root_kept : (views : List View) (id : ℕ) (new : View) → id ≢ 0 → IsRootAt views 0 → IsRootAt (slice_set views id new) 0
root_kept views id new later root =
    record { view = root.view; there = set_else views id 0 new (λ e. later (sym e)) ∙ root.there; role = root.role }

pub node_kept : (views : List View) (id seat n : ℕ) (old new : View) → get_elem? views id ≡ some old → new.role ≡ Node → new.walk.node.0 ≡ old.walk.node.0 →
    IsNodeAt views seat n → IsNodeAt (slice_set views id new) seat n
node_kept views id seat n old new there role same node =
    elim (cases_eq seat id) [
      | inl here ↦
          let at : get_elem? views id ≡ some node.view = subst (λ (k : ℕ). get_elem? views k ≡ some node.view) here node.there in
          let is : node.view ≡ old = same_at views id node.view old at there in
          record {
            view = new;
            there = rw here (set_here views id new (at_within views id old there));
            role = role;
            node = same ∙ (ap (λ (v : View). v.walk.node.0) (sym is) ∙ node.node);
          }
      | inr away ↦ record { view = node.view; there = set_else views id seat new away ∙ node.there; role = node.role; node = node.node }
    ]

-- an event of node n changes nothing that another node knows
pub other_walk : OwnersAreOne → (tables : Tables) (tries : ℕ) (log : List Event) (e : Event) (walk : Walk) →
    slice_get (state tables tries log).words e.word.0 ≡ Some e.was → Owns (layout_of tables) e.word.0 (payload_in e.was) e.node.0 → (walk.node.0 ≡ e.node.0 →
    ⊥) → IsWalk tables tries log walk → IsWalk tables tries (e ∷ log) walk
other_walk owners tables tries log e walk word owned other is =
    let c : CoreState = state tables tries log in
    record {
      history = is.history ∙ sym (history_other walk.node.0 e log (λ same. other (sym same)));
      mind = is.mind ∙ sym (put_other (state tables tries log).minds e.node.0 (mind_after tables (state tables tries log) e) walk.node.0 other);
      clock = is.clock ∙ sym (put_other (state tables tries log).clocks e.node.0 e.stamp walk.node.0 other);
      fresh = λ load last. fresh load (is.fresh load last);
    }
  where
    fresh : (load : Load) → IsFresh tables (state tables tries log).words walk.node.0 load →
        IsFresh tables (slice_set (state tables tries log).words e.word.0 e.now) walk.node.0 load
    fresh load was =
        record {
          there = was.there;
          still = λ mine.
              elim (cases_eq load.word.0 e.word.0) [
                | inl here ↦
                    let there : slice_get (state tables tries log).words e.word.0 ≡ Some load.value =
                    subst (λ (w : ℕ). slice_get (state tables tries log).words w ≡ Some load.value) here (was.still mine) in
                    let value : load.value ≡ e.was = same_some (slice_get (state tables tries log).words e.word.0) load.value e.was there word in
                    let at : Owns (layout_of tables) e.word.0 (payload_in load.value) walk.node.0 =
                    subst (λ (w : ℕ). Owns (layout_of tables) w (payload_in load.value) walk.node.0) here mine in
                    let theirs : Owns (layout_of tables) e.word.0 (payload_in e.was) walk.node.0 =
                    subst (λ (v : ℕ). Owns (layout_of tables) e.word.0 (payload_in v) walk.node.0) value at in
                    absurd (other (owners (layout_of tables) e.word.0 (payload_in e.was) walk.node.0 e.node.0 theirs owned))
                | inr away ↦ get_set_other (state tables tries log).words e.word.0 load.word.0 e.now away ∙ was.still mine
              ];
        }

other_kept : (tables : Tables) (tries : ℕ) (log : List Event) (e : Event) (kept : Kept) → (kept.node.0 ≡ e.node.0 → ⊥) → IsKept tables tries log kept →
    IsKept tables tries (e ∷ log) kept
other_kept tables tries log e kept other is =
    record {
      history = is.history ∙ sym (history_other kept.node.0 e log (λ same. other (sym same)));
      mind = is.mind ∙ sym (put_other (state tables tries log).minds e.node.0 (mind_after tables (state tables tries log) e) kept.node.0 other);
    }

not_first : (n : ℕ) (kept : Kept) (more : List Kept) → times n (kept ∷ more) ≡ 0 → (kept.node.0 ≡ n → ⊥) × (times n more ≡ 0)
not_first n kept more none =
    elim (cases_eq kept.node.0 n) [
      | inl same ↦
          let here : times n (kept ∷ more) ≡ suc (times n more) = rw (eq-eqb kept.node.0 n same) refl in
          absurd (omega arith)
      | inr other ↦
          let here : times n (kept ∷ more) ≡ times n more = rw (ne_eqb kept.node.0 n other) refl in
          (other, sym here ∙ none)
    ]

others_kept : (tables : Tables) (tries : ℕ) (log : List Event) (e : Event) (taken : List Kept) → times e.node.0 taken ≡ 0 → AreKept tables tries log taken →
    AreKept tables tries (e ∷ log) taken
others_kept tables tries log e [] none are = tt
others_kept tables tries log e (kept ∷ more) none are =
    let here = not_first e.node.0 kept more none in
    (other_kept tables tries log e kept here.0 are.0, others_kept tables tries log e more here.1 are.1)

pub live_not_taken : (places : Places) (n : ℕ) → places.place n ≢ 0 → times_taken places n ≡ 0
live_not_taken places n live = by (nat_lt n places.handed)
  where
    by : (b : Bool) → ◌≡◌ {A = ℕ} (if b && (places.place n == 0) then 1 else 0) 0
    by true = rw (ne_eqb (places.place n) 0 live) refl
    by false = refl

pub other_knows : OwnersAreOne → (tables : Tables) (tries : ℕ) (log : List Event) (places : Places) (id seat : ℕ) (e : Event) (view : View) (role : Role) →
    slice_get (state tables tries log).words e.word.0 ≡ Some e.was → Owns (layout_of tables) e.word.0 (payload_in e.was) e.node.0 →
    places.place e.node.0 ≡ id → id ≢ 0 → seat ≢ id → Knows tables tries log places seat view role → Knows tables tries (e ∷ log) places seat view role
other_knows owners tables tries log places id seat e view Root word owned place later away knows =
    let none : times e.node.0 view.taken ≡ 0 = knows.taken e.node.0 ∙ live_not_taken places e.node.0 (λ zero. later (sym place ∙ zero)) in
    record {
      first = knows.first;
      line = knows.line;
      tries_are = knows.tries_are;
      handed = knows.handed;
      kept = others_kept tables tries log e view.taken none knows.kept;
      taken = knows.taken;
    }
other_knows owners tables tries log places id seat e view Node word owned place later away knows =
    let other : (view.walk.node.0 ≡ e.node.0 → ⊥) = λ same. away (sym knows.place ∙ (ap places.place same ∙ place)) in
    record {
      later = knows.later;
      line = knows.line;
      tries_are = knows.tries_are;
      handed = knows.handed;
      place = knows.place;
      walk = other_walk owners tables tries log e view.walk word owned other knows.walk;
    }
other_knows owners tables tries log places id seat e view Spent word owned place later away knows = tt

-- a node with no event in the log is as at the start
pub record IsUnborn (tables : Tables) (tries : ℕ) (log : List Event) (n : ℕ) : Type 0 where
  pub mind : (state tables tries log).minds n ≡ start_mind tables tries n
  pub clock : (state tables tries log).clocks n ≡ 0

cons_not_empty : {A : Type 0} (x : A) (xs : List A) → x ∷ xs ≡ [] → ⊥
cons_not_empty x xs e = cc

pub unborn_is : (tables : Tables) (tries : ℕ) (log : List Event) (n : ℕ) → history n log ≡ [] → IsUnborn tables tries log n
unborn_is tables tries [] n none = record { mind = refl; clock = refl }
unborn_is tables tries (e ∷ log) n none =
    elim (cases_eq n e.node.0) [
      | inl same ↦ absurd (cons_not_empty e (history n log) (sym (history_own n e log (sym same)) ∙ none))
      | inr other ↦
          let before : IsUnborn tables tries log n = unborn_is tables tries log n (sym (history_other n e log (λ same. other (sym same))) ∙ none) in
          record {
            mind = put_other (state tables tries log).minds e.node.0 (mind_after tables (state tables tries log) e) n other ∙ before.mind;
            clock = put_other (state tables tries log).clocks e.node.0 e.stamp n other ∙ before.clock;
          }
    ]
