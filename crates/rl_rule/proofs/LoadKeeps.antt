-- A load keeps the rule, and tells what it tells.
use Rattle.std.proofs.Common.{◌≡◌, ◌≢◌, ℕ, ◌<◌, ◌≤◌, List, length, slice_get, slice_index, Some, refl}
use Rattle.std.proofs.Common.{ap, ◌∙◌, subst, ⊎_elim, arith}
use mathlib.Core.Option.{some, none}
use lib.ListN.{get_elem?}
use Rattle.atomic_table.specs.Table.{State, step, Allows, keeps}
use Rattle.atomic_table.proofs.Lists.{at_set}
use Rattle.rl_base.specs.Layout.{word_count}
use Rattle.rl_words.specs.Stamps.{stamp_in}
use Rattle.rl_record.specs.declared.event.Event.{Event}
use Rattle.rl_tables.specs.declared.table.Tables.{Tables}
use Rattle.rl_tables.specs.Starts.{layout_of}
use Rattle.rl_steps.specs.Run.{state}
use Rattle.rl_steps.specs.Sound.{IsSound}
use Rattle.rl_rule.specs.declared.views.Load.{Load}
use Rattle.rl_rule.specs.declared.views.Walk.{Walk}
use Rattle.rl_rule.specs.declared.views.View.{View}
use Rattle.rl_rule.specs.declared.views.Role.TheVariants.{Node}
use Rattle.rl_rule.specs.Views.{loaded}
use Rattle.rl_rule.specs.Loads.{Tells, IsAlone, last_value, most_events}
use Rattle.rl_rule.specs.Plays.{Sat, loads}
use Rattle.rl_rule.specs.Ruled.{IsFresh, IsWalk, Places, KnowsNode, IsRuled}
use Rattle.rl_rule.proofs.Lists.{set_same, get_index}
use Rattle.rl_rule.proofs.Known.{Laws, MomentLaws}
use Rattle.rl_rule.proofs.Moments.{seen_at, seen_by}
use Rattle.rl_rule.proofs.Tellings.{told}
use Rattle.rl_rule.proofs.Runs.{Runs}
use Rattle.rl_rule.proofs.Alone.{alone_value}
use Rattle.rl_rule.proofs.Others.{few_in_log, as_role, from_role, as_view, root_kept, node_kept}

-- the walk after the load
loaded_walk : (tables : Tables) (tries : ℕ) (log : List Event) (walk : Walk) (w value : ℕ) → w < word_count (layout_of tables) →
    slice_get (state tables tries log).words w ≡ Some value → IsWalk tables tries log walk → IsWalk tables tries log (loaded walk w value)
loaded_walk tables tries log walk w value within word is =
    record {
      history = is.history;
      mind = is.mind;
      clock = is.clock;
      fresh = λ load last.
          let same : loaded_with ≡ load = some_same loaded_with load last in
          subst (IsFresh tables (state tables tries log).words walk.node.0) same (record { there = within; still = λ owned. word });
    }
  where
    loaded_with : Load
    loaded_with = record { word = record { 0 = w }; value = value }

    some_same : (a b : Load) → Some a ≡ Some b → a ≡ b
    some_same a b e = cc

node_after : (tables : Tables) (tries : ℕ) (log : List Event) (places : Places) (id : ℕ) (view : View) (w value : ℕ) → w < word_count (layout_of tables)
    → slice_get (state tables tries log).words w ≡ Some value → KnowsNode tables tries log places id view
    → KnowsNode tables tries log places id (record view { walk = loaded view.walk w value })
node_after tables tries log places id view w value within word knows =
    record {
      later = knows.later;
      line = knows.line;
      tries_are = knows.tries_are;
      handed = knows.handed;
      place = knows.place;
      walk = loaded_walk tables tries log view.walk w value within word knows.walk;
    }

tells : Laws → (tables : Tables) (tries : ℕ) (s : State (Unit {0}) View) (ruled : IsRuled tables tries s) (walk : Walk) (w value : ℕ) →
    slice_get (state tables tries ruled.log).words w ≡ Some value → IsWalk tables tries ruled.log walk → Tells walk.history w value
tells laws tables tries s ruled walk w value word is =
    let few : length ruled.log ≤ most_events = few_in_log tables ruled.log ruled.places.handed ruled.line ruled.few ruled.unborn ruled.short in
    let sound : IsSound tables (length ruled.log) (state tables tries ruled.log) =
    laws.runs tables tries ruled.log ruled.line ruled.few_tries (omega arith) ruled.run in
    let bound : stamp_in value ≤ length ruled.log = (sound.words w value word).1 in
    record {
      later = λ e last. (told laws tables tries ruled.log walk.node.0 w value e ruled.line ruled.few_tries (omega arith) ruled.run word
          (rw is.history at last)).later;
      same = λ e last. (told laws tables tries ruled.log walk.node.0 w value e ruled.line ruled.few_tries (omega arith) ruled.run word
          (rw is.history at last)).same;
      room = omega arith;
    }

own_value : Laws → (tables : Tables) (tries : ℕ) (s : State (Unit {0}) View) (ruled : IsRuled tables tries s) (id : ℕ) (view : View) (w value : ℕ) →
    slice_get (state tables tries ruled.log).words w ≡ Some value → KnowsNode tables tries ruled.log ruled.places id view →
    IsAlone view.line w view.walk.node.0 → value ≡ last_value view.line view.walk.history w
own_value laws tables tries s ruled id view w value word knows alone =
    let few : length ruled.log ≤ most_events = few_in_log tables ruled.log ruled.places.handed ruled.line ruled.few ruled.unborn ruled.short in
    let runs : Runs tables tries ruled.log = record { line = ruled.line; few = ruled.few_tries; room = omega arith; run = ruled.run } in
    let here : IsAlone tables w view.walk.node.0 = subst (λ (t : Tables). IsAlone t w view.walk.node.0) knows.line alone in
    rw (knows.line, knows.walk.history) (alone_value laws tables tries ruled.log view.walk.node.0 w value runs here word)

pub load_keeps : Laws → MomentLaws → (tables : Tables) (tries slots id w : ℕ) (me : Sat) → me.0.role ≡ Node → w < word_count (layout_of tables) →
    Allows (IsRuled tables tries) slots id me w (λ n. n) (loads (step slots w 0 0 none) me)
load_keeps laws moments tables tries slots id w me role within s ruled homes there small =
    let value : ℕ = slice_index s.words w in
    let new : View = record me.0 { walk = loaded me.0.walk w (slice_index s.words w) } in
    let sound : IsSound tables (length ruled.log) (state tables tries ruled.log) =
    laws.runs tables tries ruled.log ruled.line ruled.few_tries
    (omega (arith, few_in_log tables ruled.log ruled.places.handed ruled.line ruled.few ruled.unborn ruled.short)) ruled.run in
    let wide : length s.words ≡ word_count (layout_of tables) = ap length ruled.words ∙ sound.size in
    let held : slice_get s.words w ≡ Some (slice_index s.words w) = get_index s.words w (omega arith) in
    let word : slice_get (state tables tries ruled.log).words w ≡ Some (slice_index s.words w) = rw (← ruled.words) held in
    let knows : KnowsNode tables tries ruled.log ruled.places id me.0 =
    as_role tables tries ruled.log ruled.places id me.0 Node role (ruled.each id me.0 there) in
    let after : KnowsNode tables tries ruled.log ruled.places id new =
    node_after tables tries ruled.log ruled.places id me.0 w (slice_index s.words w) within word knows in (
      new,
      keeps,
      tt,
      record {
        line = ruled.line;
        few_tries = ruled.few_tries;
        log = ruled.log;
        run = ruled.run;
        words = set_same s.words w ∙ ruled.words;
        places = ruled.places;
        few = ruled.few;
        unborn = ruled.unborn;
        short = ruled.short;
        root = root_kept s.views id new knows.later ruled.root;
        nodes = λ n handed live. node_kept s.views id (ruled.places.place n) n me.0 new there role refl (ruled.nodes n handed live);
        each = λ seat view at.
            ⊎_elim
            (λ (t : (seat ≡ id) × (new ≡ view)). as_view tables tries ruled.log ruled.places id seat view new t.0 t.1
            (from_role tables tries ruled.log ruled.places id new Node role after))
            (λ (t : (seat ≢ id) × (get_elem? s.views seat ≡ some view)). ruled.each seat view t.1)
            (at_set s.views id seat new view at);
      },
      (
        refl,
        tells laws tables tries s ruled me.0.walk w (slice_index s.words w) word knows.walk,
        λ alone. own_value laws tables tries s ruled id me.0 w
            (slice_index s.words w) word knows alone,
        seen_by tables tries me.0 w (slice_index s.words w) knows.line knows.tries_are
            (seen_at moments tables tries s ruled id me.0 there role w (slice_index s.words w) held),
      ),
    )
