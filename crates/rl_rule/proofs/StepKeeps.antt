-- The step of a node keeps the rule: its event is one more of the log.
use Rattle.std.proofs.Common.{◌≡◌, ◌≢◌, ℕ, suc, ◌<◌, ◌≤◌, List, [], ◌∷◌, length, slice_get, slice_set, Option, Some}
use Rattle.std.proofs.Common.{None, refl, sym, ap, ◌∙◌, subst, inl, inr, ⊎_elim, arith}
use Rattle.std.proofs.lemmas.Bool.{cases_eq}
use mathlib.Core.Option.{some, none}
use lib.ListN.{get_elem?}
use Rattle.atomic_table.specs.Table.{State, step, Allows, keeps}
use Rattle.atomic_table.specs.Table as table
use Rattle.atomic_table.proofs.Lists.{at_set, set_here}
use Rattle.rl_base.specs.declared.limits.TheConstants.{MAX_EVENTS}
use Rattle.rl_words.specs.Owner.{Owns}
use Rattle.rl_words.specs.Stamps.{stamp_in, payload_in}
use Rattle.rl_record.specs.declared.event.Event.{Event}
use Rattle.rl_record.specs.Merge.{history}
use Rattle.rl_tables.specs.declared.table.Tables.{Tables}
use Rattle.rl_tables.specs.Starts.{layout_of}
use Rattle.rl_steps.specs.declared.mind.Mind.{Mind}
use Rattle.rl_steps.specs.Run.{EventFits, state}
use Rattle.rl_steps.specs.Step.{node_step}
use Rattle.rl_steps.specs.State.{CoreState, next_stamp, event_at, mind_after}
use Rattle.rl_steps.specs.Sound.{IsSound}
use Rattle.rl_rule.specs.declared.views.Load.{Load}
use Rattle.rl_rule.specs.declared.views.Walk.{Walk}
use Rattle.rl_rule.specs.declared.views.View.{View}
use Rattle.rl_rule.specs.declared.views.Role.TheVariants.{Node}
use Rattle.rl_rule.specs.Views.{event_by}
use Rattle.rl_rule.specs.Views as views
use Rattle.rl_rule.specs.Loads.{most_events}
use Rattle.rl_rule.specs.Moments.{IsSeen}
use Rattle.rl_rule.specs.Plays.{Sat, IsStep, steps}
use Rattle.rl_rule.specs.Ruled.{IsWalk, Places, KnowsNode, IsRuled}
use Rattle.rl_steps.proofs.Options.{get_set_same}
use Rattle.rl_rule.proofs.Known.{Laws, MomentLaws}
use Rattle.rl_rule.proofs.Lists.{at_within}
use Rattle.rl_rule.proofs.Moments.{seen_at, seen_by}
use Rattle.rl_rule.proofs.Histories.{history_own, history_other}
use Rattle.rl_merge.proofs.Exchange.{put_same}
use Rattle.rl_rule.proofs.Others.{few_in_log, as_role, from_role, as_view, root_kept, node_kept, other_knows}

-- the step fits the state
fits_state : (tables : Tables) (c : CoreState) (n w was payload clock : ℕ) (mind : Mind) → slice_get c.words w ≡ Some was →
    node_step tables n (c.minds n) w (payload_in was) ≡ Some (payload, mind) → clock ≡ c.clocks n →
    EventFits tables c (event_at n (next_stamp clock was) w was payload)
fits_state tables c n w was payload clock mind word step same = rw (word, step, same) refl

mind_made : (tables : Tables) (c : CoreState) (n w was payload clock : ℕ) (mind : Mind) →
    node_step tables n (c.minds n) w (payload_in was) ≡ Some (payload, mind) → mind_after tables c (event_at n (next_stamp clock was) w was payload) ≡ mind
mind_made tables c n w was payload clock mind step = rw step refl

-- what is so of the step in the state that the log leaves
record IsMove (tables : Tables) (tries : ℕ) (log : List Event) (walk : Walk) (load : Load) (payload : ℕ) (mind : Mind) : Type 0 where
  fits : EventFits tables (state tables tries log) (event_by walk load payload)
  word : slice_get (state tables tries log).words load.word.0 ≡ Some load.value
  owned : Owns (layout_of tables) load.word.0 (payload_in load.value) walk.node.0
  after : mind_after tables (state tables tries log) (event_by walk load payload) ≡ mind
  stamp : (event_by walk load payload).stamp ≤ suc (length log)

is_move : Laws →
    (tables : Tables) (tries : ℕ) (s : State (Unit {0}) View) (ruled : IsRuled tables tries s) (id : ℕ) (view : View) (load : Load) (payload : ℕ) (mind : Mind)
    →
    KnowsNode tables tries ruled.log ruled.places id view → IsStep view.line view.walk load payload mind →
    IsMove tables tries ruled.log view.walk load payload mind
is_move laws tables tries s ruled id view load payload mind knows is =
    let c : CoreState = state tables tries ruled.log in
    let sound : IsSound tables (length ruled.log) (state tables tries ruled.log) =
    laws.runs tables tries ruled.log ruled.line ruled.few_tries
    (omega (arith, few_in_log tables ruled.log ruled.places.handed ruled.line ruled.few ruled.unborn ruled.short)) ruled.run in
    let step : node_step tables view.walk.node.0 ((state tables tries ruled.log).minds view.walk.node.0) load.word.0 (payload_in load.value)
    ≡ Some (payload, mind) = rw (knows.line, knows.walk.mind) at is.step in
    let owned = laws.steps tables view.walk.node.0 load.word.0 (payload_in load.value) payload
    ((state tables tries ruled.log).minds view.walk.node.0) mind ruled.line (sound.minds view.walk.node.0) step in
    let word : slice_get (state tables tries ruled.log).words load.word.0 ≡ Some load.value = (knows.walk.fresh load is.loaded).still owned.0 in
    let clock : view.walk.clock ≤ length ruled.log = rw knows.walk.clock (sound.clocks view.walk.node.0) in
    let was : stamp_in load.value ≤ length ruled.log = (sound.words load.word.0 load.value word).1 in
    record {
      fits = fits_state tables (state tables tries ruled.log) view.walk.node.0 load.word.0 load.value payload view.walk.clock mind word step knows.walk.clock;
      word = word;
      owned = owned.0;
      after = mind_made tables (state tables tries ruled.log) view.walk.node.0 load.word.0 load.value payload view.walk.clock mind step;
      stamp = omega arith;
    }

-- the walk after the step
stepped_walk : (tables : Tables) (tries : ℕ) (log : List Event) (walk : Walk) (load : Load) (payload : ℕ) (mind : Mind) →
    IsMove tables tries log walk load payload mind → IsWalk tables tries log walk →
    IsWalk tables tries (event_by walk load payload ∷ log) (views.stepped walk (event_by walk load payload) mind)
stepped_walk tables tries log walk load payload mind move is =
    let e : Event = event_by walk load payload in
    record {
      history = ap (λ (h : List Event). event_by walk load payload ∷ h) is.history ∙ sym (history_own walk.node.0 (event_by walk load payload) log refl);
      mind = sym (put_same (state tables tries log).minds walk.node.0 (mind_after tables (state tables tries log) (event_by walk load payload)) ∙ move.after);
      clock = sym (put_same (state tables tries log).clocks walk.node.0 (event_by walk load payload).stamp);
      fresh = λ load none. absurd (no_load load none);
    }
  where
    no_load : (l : Load) → None ≡ Some l → ⊥
    no_load l e = cc

node_after : (tables : Tables) (tries : ℕ) (log : List Event) (places : Places) (id : ℕ) (view : View) (load : Load) (payload : ℕ) (mind : Mind)
    → IsMove tables tries log view.walk load payload mind → KnowsNode tables tries log places id view
    → KnowsNode tables tries (event_by view.walk load payload ∷ log) places id
    (record view { walk = views.stepped view.walk (event_by view.walk load payload) mind })
node_after tables tries log places id view load payload mind move knows =
    record {
      later = knows.later;
      line = knows.line;
      tries_are = knows.tries_are;
      handed = knows.handed;
      place = knows.place;
      walk = stepped_walk tables tries log view.walk load payload mind move knows.walk;
    }

-- a view has one load, and one step on it
record IsOne (load other : Load) (payload payload2 : ℕ) (mind mind2 : Mind) : Type 0 where
  loads_are : load ≡ other
  payloads_are : payload ≡ payload2
  minds_are : mind ≡ mind2

same_step : (view : View) (load other : Load) (payload payload2 : ℕ) (mind mind2 : Mind) → IsStep view.line view.walk load payload mind →
    IsStep view.line view.walk other payload2 mind2 → IsOne load other payload payload2 mind mind2
same_step view load other payload payload2 mind mind2 a b =
    let one : load ≡ other = some_same load other (sym a.loaded ∙ b.loaded) in
    let there : node_step view.line view.walk.node.0 view.walk.mind load.word.0 (payload_in load.value) ≡ Some (payload2, mind2) = rw one b.step in
    let both : ◌≡◌ {A = Option (ℕ × Mind)} (Some (payload, mind)) (Some (payload2, mind2)) = sym a.step ∙ there in
    record { loads_are = one; payloads_are = first payload payload2 mind mind2 both; minds_are = second payload payload2 mind mind2 both }
  where
    some_same : (a b : Load) → Some a ≡ Some b → a ≡ b
    some_same a b e = cc

    first : (p q : ℕ) (m k : Mind) → ◌≡◌ {A = Option (ℕ × Mind)} (Some (p, m)) (Some (q, k)) → p ≡ q
    first p q m k e = let pair : ◌≡◌ {A = ℕ × Mind} (p, m) (q, k) = cc in ap (λ (r : ℕ × Mind). r.0) pair

    second : (p q : ℕ) (m k : Mind) → ◌≡◌ {A = Option (ℕ × Mind)} (Some (p, m)) (Some (q, k)) → m ≡ k
    second p q m k e = let pair : ◌≡◌ {A = ℕ × Mind} (p, m) (q, k) = cc in ap (λ (r : ℕ × Mind). r.1) pair

-- what is seen after the step, of the walk, the word and the event
abbrev Sees : Sat → Load → ℕ → Mind → Type 0
Sees me load payload mind =
    IsSeen me.0.line me.0.tries (views.stepped me.0.walk (event_by me.0.walk load payload) mind) load.word.0 (event_by me.0.walk load payload).now

tells : (slots : ℕ) (me : Sat) (load : Load) (payload new : ℕ) (mind : Mind) → IsStep me.0.line me.0.walk load payload mind
    → (event_by me.0.walk load payload).stamp ≤ most_events → Sees me load payload mind
    → steps (step slots load.word.0 new 0 none) me new (record me.0 { walk = views.stepped me.0.walk (event_by me.0.walk load payload) mind }, me.1)
tells slots me load payload new mind is few seen other payload2 mind2 also =
    let one : IsOne load other payload payload2 mind mind2 = same_step me.0 load other payload payload2 mind mind2 is also in (
      rw (one.loads_are, one.payloads_are, one.minds_are) refl,
      subst (λ (l : Load). (event_by me.0.walk l payload2).stamp ≤ most_events) one.loads_are
          (subst (λ (p : ℕ). (event_by me.0.walk load p).stamp ≤ most_events) one.payloads_are few),
      subst (λ (l : Load). Sees me l payload2 mind2) one.loads_are
          (subst (λ (p : ℕ). Sees me load p mind2) one.payloads_are (subst (λ (m : Mind). Sees me load payload m) one.minds_are seen)),
    )

short_after : (log : List Event) (e : Event) (n : ℕ) (mine : List Event) → mine ≡ history e.node.0 log → length mine < MAX_EVENTS → ((m : ℕ) →
    length (history m log) ≤ MAX_EVENTS) → length (history n (e ∷ log)) ≤ MAX_EVENTS
short_after log e n mine is room short =
    elim (cases_eq e.node.0 n) [
      | inl same ↦
          let more : length (history n (e ∷ log)) ≡ suc (length (history n log)) = ap length (history_own n e log same) in
          let own : length mine ≡ length (history n log) = ap length is ∙ ap (λ (k : ℕ). length (history k log)) same in
          omega arith
      | inr other ↦ rw (history_other n e log other) (short n)
    ]

-- the word and the view after the step, at that moment
sees : MomentLaws → (tables : Tables) (tries id : ℕ) (me : Sat) (load : Load) (payload new : ℕ) (mind : Mind) (s : State (Unit {0}) View)
    → get_elem? s.views id ≡ some me.0 → me.0.role ≡ Node → me.0.line ≡ tables → me.0.tries ≡ tries → slice_get s.words load.word.0 ≡ Some load.value
    → new ≡ (event_by me.0.walk load payload).now
    → IsRuled tables tries (table.stepped s load.word.0 new id me.1 (record me.0 { walk = views.stepped me.0.walk (event_by me.0.walk load payload) mind }) keeps)
    → Sees me load payload mind
sees laws tables tries id me load payload new mind s there role line tries_are word now ruled =
    let view : View = record me.0 { walk = views.stepped me.0.walk (event_by me.0.walk load payload) mind } in
    let here : slice_get (slice_set s.words load.word.0 new) load.word.0 ≡ Some new = get_set_same s.words load.word.0 load.value new word in
    let at : slice_get (slice_set s.words load.word.0 new) load.word.0 ≡ Some (event_by me.0.walk load payload).now =
    here ∙ ap (λ (k : ℕ). Some k) now in
    seen_by tables tries (record me.0 { walk = views.stepped me.0.walk (event_by me.0.walk load payload) mind }) load.word.0
    (event_by me.0.walk load payload).now line tries_are
    (seen_at laws tables tries (table.stepped s load.word.0 new id me.1 view keeps) ruled id view
    (set_here s.views id view (at_within s.views id me.0 there)) role load.word.0 (event_by me.0.walk load payload).now at)

pub step_keeps : Laws → MomentLaws → (tables : Tables) (tries slots id new : ℕ) (me : Sat) (load : Load) (payload : ℕ) (mind : Mind) → me.0.role ≡ Node →
    IsStep me.0.line me.0.walk load payload mind → length me.0.walk.history < MAX_EVENTS → new ≡ (event_by me.0.walk load payload).now →
    Allows (IsRuled tables tries) slots id me load.word.0 (λ _. new) (λ _. steps (step slots load.word.0 new 0 none) me new)
step_keeps laws moments tables tries slots id new me load payload mind role is room now s ruled homes there small =
    let e : Event = event_by me.0.walk load payload in
    let view : View = record me.0 { walk = views.stepped me.0.walk (event_by me.0.walk load payload) mind } in
    let knows : KnowsNode tables tries ruled.log ruled.places id me.0 =
    as_role tables tries ruled.log ruled.places id me.0 Node role (ruled.each id me.0 there) in
    let move : IsMove tables tries ruled.log me.0.walk load payload mind = is_move laws tables tries s ruled id me.0 load payload mind knows is in
    let after : KnowsNode tables tries (e ∷ ruled.log) ruled.places id view =
    node_after tables tries ruled.log ruled.places id me.0 load payload mind move knows in
    let short : (n : ℕ) → length (history n (e ∷ ruled.log)) ≤ MAX_EVENTS =
    λ n. short_after ruled.log e n me.0.walk.history knows.walk.history room ruled.short in
    let unborn : (n : ℕ) → ruled.places.handed ≤ n
    → history n (e ∷ ruled.log) ≡ [] = λ n past. history_other n e ruled.log (λ same. omega (arith, knows.handed)) ∙ ruled.unborn n past in
    let few : length (e ∷ ruled.log) ≤ most_events = few_in_log tables (e ∷ ruled.log) ruled.places.handed ruled.line ruled.few unborn short in
    let then : IsRuled tables tries (table.stepped s load.word.0 new id me.1 view keeps) =
    record {
      line = ruled.line;
      few_tries = ruled.few_tries;
      log = e ∷ ruled.log;
      run = (ruled.run, move.fits);
      words = rw (ruled.words, now) refl;
      places = ruled.places;
      few = ruled.few;
      unborn = unborn;
      short = short;
      root = root_kept s.views id view knows.later ruled.root;
      nodes = λ n handed live. node_kept s.views id (ruled.places.place n) n me.0 view there role refl (ruled.nodes n handed live);
      each = λ seat other at.
          ⊎_elim
          (λ (t : (seat ≡ id) × (view ≡ other)). as_view tables tries (e ∷ ruled.log) ruled.places id seat other view t.0 t.1
          (from_role tables tries (e ∷ ruled.log) ruled.places id view Node role after))
          (λ (t : (seat ≢ id) × (get_elem? s.views seat ≡ some other)). other_knows laws.owners tables tries ruled.log ruled.places id seat e other other.role
          move.word move.owned knows.place knows.later t.0 (ruled.each seat other t.1))
          (at_set s.views id seat view other at);
    } in (
      view,
      keeps,
      tt,
      then,
      tells slots me load payload new mind is (omega (arith, move.stamp))
          (sees moments tables tries id me load payload new mind s there role knows.line knows.tries_are (rw ruled.words move.word) now then),
    )
