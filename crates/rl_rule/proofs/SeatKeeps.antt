-- The start keeps the rule, and so do a seat that is handed out and a seat that is taken in.
use Rattle.std.proofs.Common.{◌≡◌, ◌≢◌, ℕ, zero, suc, ◌+◌, ◌<◌, ◌≤◌, ◌==◌, nat_lt, ◌&&◌, List, [], ◌∷◌, ◌++◌, length, filter, slice_set}
use Rattle.std.proofs.Common.{Some, None, refl, sym, ap, ◌∙◌, subst, inl, inr, ⊎_elim, if◌then◌else◌, Bool, true, false, eq-eqb, arith}
use Rattle.std.proofs.lemmas.List.{length-set}
use Rattle.std.proofs.lemmas.Bool.{cases_eq, ne_eqb}
use Rattle.std.proofs.lemmas.Bool.Decides.{nat_tests}
use mathlib.Core.Option.{some, some-injective, some-ne-none}
use lib.ListN.{get_elem?}
use Rattle.atomic_table.specs.Table.{Splits, Joins, opening}
use Rattle.atomic_table.proofs.Lists.{at_set, set_here, set_else, at_longer, at_last}
use Rattle.rl_base.specs.Tries.{AreFewTries}
use Rattle.rl_base.specs.Layout.{word_count, node_count}
use Rattle.rl_record.specs.declared.event.Event.{Event}
use Rattle.rl_record.specs.Merge.{history}
use Rattle.rl_tables.specs.declared.table.Tables.{Tables}
use Rattle.rl_tables.specs.Kept.{IsLine}
use Rattle.rl_tables.specs.Starts.{layout_of}
use Rattle.rl_steps.specs.State.{with_value, start_words}
use Rattle.rl_rule.specs.declared.views.Load.{Load}
use Rattle.rl_rule.specs.declared.views.Kept.{Kept}
use Rattle.rl_rule.specs.declared.views.View.{View}
use Rattle.rl_rule.specs.declared.views.Role.{Role}
use Rattle.rl_rule.specs.declared.views.Role.TheVariants.{Root, Node, Spent}
use Rattle.rl_rule.specs.Views.{kept_of, root_view, grown, begun, taking, spent}
use Rattle.rl_rule.specs.Ruled.{Places, times, times_taken, KnowsRoot, KnowsNode, Knows, IsNodeAt, IsRuled}
use Rattle.rl_rule.proofs.Lists.{at_end, at_within, same_at}
use Rattle.rl_merge.proofs.Exchange.{put_same, put_other}
use Rattle.rl_rule.proofs.Others.{as_role, from_role, as_view, IsUnborn, unborn_is, live_not_taken}

-- the start
abbrev no_places : Places
no_places = record { handed = 0; place = λ n. 0 }

nothing_taken : (n : ℕ) → times_taken no_places n ≡ 0
nothing_taken n = grind (arith, nat_tests)

start_knows : (tables : Tables) (tries seat : ℕ) (view : View) → get_elem? (root_view tables tries ∷ []) seat ≡ some view →
    Knows tables tries [] no_places seat view view.role
start_knows tables tries zero view at =
    as_view tables tries [] no_places 0 0 view (root_view tables tries) refl (some-injective (root_view tables tries) view at)
    (record { first = refl; line = refl; tries_are = refl; handed = refl; kept = tt; taken = λ n. sym (nothing_taken n) })
start_knows tables tries (suc seat) view at = absurd (some-ne-none view (sym at))

pub start_keeps : (tables : Tables) (tries : ℕ) → IsLine tables → AreFewTries tries →
    IsRuled tables tries (opening (start_words tables (word_count (layout_of tables))) [] (root_view tables tries))
start_keeps tables tries line few =
    record {
      line = line;
      few_tries = few;
      log = [];
      run = tt;
      words = refl;
      places = no_places;
      few = omega arith;
      unborn = λ n past. refl;
      short = λ n. omega arith;
      root = record { view = root_view tables tries; there = refl; role = refl };
      nodes = λ n handed live. absurd (omega arith);
      each = λ seat view at. start_knows tables tries seat view at;
    }

-- a seat is handed out
abbrev more_places : Places → ℕ → Places
more_places places seat = record { handed = places.handed + 1; place = with_value places.place places.handed seat }

times_more : (places : Places) (seat n : ℕ) → seat ≢ 0 → times_taken places n ≡ times_taken (more_places places seat) n
times_more places seat n live =
    elim (cases_eq n places.handed) [
      | inl same ↦ old_none n same ∙ sym (new_none n same)
      | inr other ↦ both n other
    ]
  where
    not_zero : (b c : Bool) → c ≡ false → ◌≡◌ {A = ℕ} (if b && c then 1 else 0) 0
    not_zero true c is = rw is refl
    not_zero false c is = refl

    old_none : (m : ℕ) → m ≡ places.handed → times_taken places m ≡ 0
    old_none m same = grind (arith, nat_tests)

    new_none : (m : ℕ) → m ≡ places.handed → times_taken (more_places places seat) m ≡ 0
    new_none m same =
        let at : with_value places.place places.handed seat m ≡ seat = rw same (put_same places.place places.handed seat) in
        not_zero (nat_lt m (places.handed + 1)) (with_value places.place places.handed seat m == 0) (rw at (ne_eqb seat 0 live))

    both : (m : ℕ) → (m ≡ places.handed → ⊥) → times_taken places m ≡ times_taken (more_places places seat) m
    both m other =
        let below : nat_lt m (places.handed + 1) ≡ nat_lt m places.handed = grind (arith, nat_tests) in
        rw (put_other places.place places.handed seat m other, below) refl

grown_knows : (tables : Tables) (tries : ℕ) (log : List Event) (places : Places) (id : ℕ) (view : View) (seat : ℕ) → seat ≢ 0 →
    KnowsRoot tables tries log places id view → KnowsRoot tables tries log (more_places places seat) id (grown view)
grown_knows tables tries log places id view seat live knows =
    record {
      first = knows.first;
      line = knows.line;
      tries_are = knows.tries_are;
      handed = ap (λ n. n + 1) knows.handed;
      kept = knows.kept;
      taken = λ n. knows.taken n ∙ times_more places seat n live;
    }

begun_knows : (tables : Tables) (tries : ℕ) (log : List Event) (places : Places) (id : ℕ) (view : View) (seat : ℕ) → seat ≢ 0 → ((n : ℕ) → places.handed ≤ n →
    history n log ≡ []) → KnowsRoot tables tries log places id view → KnowsNode tables tries log (more_places places seat) seat (begun view)
begun_knows tables tries log places id view seat live unborn knows =
    let none : history view.handed log ≡ [] = unborn view.handed (omega (arith, knows.handed)) in
    let new : IsUnborn tables tries log view.handed = unborn_is tables tries log view.handed none in
    record {
      later = live;
      line = knows.line;
      tries_are = knows.tries_are;
      handed = omega (arith, knows.handed);
      place = rw knows.handed (put_same places.place places.handed seat);
      walk = record {
        history = sym none;
        mind = rw (knows.line, knows.tries_are) (sym new.mind);
        clock = sym new.clock;
        fresh = λ load last. absurd (no_load load last);
      };
    }
  where
    no_load : (l : Load) → None ≡ Some l → ⊥
    no_load l e = cc

older_knows : (tables : Tables) (tries : ℕ) (log : List Event) (places : Places) (seat next : ℕ) (view : View) (role : Role) → seat ≢ 0 →
    Knows tables tries log places seat view role → Knows tables tries log (more_places places next) seat view role
older_knows tables tries log places seat next view Root later knows = absurd (later knows.first)
older_knows tables tries log places seat next view Node later knows =
    record {
      later = knows.later;
      line = knows.line;
      tries_are = knows.tries_are;
      handed = omega (arith, knows.handed);
      place = put_other places.place places.handed next view.walk.node.0 (λ same. omega (arith, knows.handed)) ∙ knows.place;
      walk = knows.walk;
    }
older_knows tables tries log places seat next view Spent later knows = tt

pub split_keeps : (tables : Tables) (tries id : ℕ) (view : View) → view.role ≡ Root → view.handed < node_count (layout_of tables) →
    Splits (IsRuled tables tries) id view (grown view) (begun view)
split_keeps tables tries id view role room s ruled there =
    let knows : KnowsRoot tables tries ruled.log ruled.places id view =
    as_role tables tries ruled.log ruled.places id view Root role (ruled.each id view there) in
    let next : ℕ = length s.views in
    let within : id < length s.views = at_within s.views id view there in
    let live : length s.views ≢ 0 = λ e. omega arith in
    let size : length (slice_set s.views id (grown view)) ≡ length s.views = length-set s.views id (grown view) in
    let root_after : Knows tables tries ruled.log (more_places ruled.places (length s.views)) id (grown view) Root =
    grown_knows tables tries ruled.log ruled.places id view (length s.views) live knows in
    let node_after : Knows tables tries ruled.log (more_places ruled.places (length s.views)) (length s.views) (begun view) Node =
    begun_knows tables tries ruled.log ruled.places id view (length s.views) live ruled.unborn knows in
    record {
      line = ruled.line;
      few_tries = ruled.few_tries;
      log = ruled.log;
      run = ruled.run;
      words = ruled.words;
      places = more_places ruled.places (length s.views);
      few = omega (arith, knows.handed);
      unborn = λ n past. ruled.unborn n (omega arith);
      short = ruled.short;
      root = record {
        view = grown view;
        there = at_longer (slice_set s.views id (grown view)) (begun view ∷ []) 0 (grown view)
            (subst (λ (k : ℕ). get_elem? (slice_set s.views k (grown view)) 0 ≡ some (grown view)) (sym knows.first)
            (set_here s.views 0 (grown view) (omega (arith, knows.first))));
        role = role;
      };
      nodes = λ n handed standing.
          elim (cases_eq n ruled.places.handed) [
            | inl same ↦
                let at : with_value ruled.places.place ruled.places.handed (length s.views) n ≡ length s.views =
                rw same (put_same ruled.places.place ruled.places.handed (length s.views)) in
                record {
                  view = begun view;
                  there = subst (λ (k : ℕ). get_elem? (slice_set s.views id (grown view) ++ begun view ∷ []) k ≡ some (begun view)) (sym at)
                      (at_last (slice_set s.views id (grown view)) (begun view) (length s.views) size);
                  role = refl;
                  node = knows.handed ∙ sym same;
                }
            | inr other ↦
                let at : with_value ruled.places.place ruled.places.handed (length s.views) n ≡ ruled.places.place n =
                put_other ruled.places.place ruled.places.handed (length s.views) n other in
                let was : IsNodeAt s.views (ruled.places.place n) n = ruled.nodes n (omega arith) (λ zero. standing (at ∙ zero)) in
                record {
                  view = was.view;
                  there = subst (λ (k : ℕ). get_elem? (slice_set s.views id (grown view) ++ begun view ∷ []) k ≡ some was.view) (sym at)
                      (at_longer (slice_set s.views id (grown view)) (begun view ∷ []) (ruled.places.place n) was.view
                      (set_else s.views id (ruled.places.place n) (grown view) (λ e. standing (at ∙ (e ∙ knows.first))) ∙ was.there));
                  role = was.role;
                  node = was.node;
                }
          ];
      each = λ seat other at.
          ⊎_elim
          (λ (here : get_elem? (slice_set s.views id (grown view)) seat ≡ some other).
          ⊎_elim
          (λ (t : (seat ≡ id) × (grown view ≡ other)). as_view tables tries ruled.log (more_places ruled.places (length s.views)) id seat other
          (grown view) t.0 t.1 (from_role tables tries ruled.log (more_places ruled.places (length s.views)) id (grown view) Root role root_after))
          (λ (t : (seat ≢ id) × (get_elem? s.views seat ≡ some other)). older_knows tables tries ruled.log ruled.places seat (length s.views) other other.role
          (λ zero. t.0 (zero ∙ sym knows.first)) (ruled.each seat other t.1))
          (at_set s.views id seat (grown view) other here))
          (λ (t : (seat ≡ length (slice_set s.views id (grown view))) × (begun view ≡ other)). as_view tables tries ruled.log
          (more_places ruled.places (length s.views)) (length s.views) seat other (begun view) (t.0 ∙ size) t.1 node_after)
          (at_end (slice_set s.views id (grown view)) (begun view) other seat at);
    }

-- a seat is taken in
abbrev less_places : Places → ℕ → Places
less_places places n = record { handed = places.handed; place = with_value places.place n 0 }

times_less : (places : Places) (n m count : ℕ) → n < places.handed → places.place n ≢ 0 → count ≡ times_taken places m →
    (if n == m then suc count else count) ≡ times_taken (less_places places n) m
times_less places n m count handed live is =
    elim (cases_eq n m) [
      | inl same ↦
          let none : count ≡ 0 = is ∙ live_not_taken places m (λ zero. live (ap places.place same ∙ zero)) in
          rw (eq-eqb n m same, none) (sym (once same))
      | inr other ↦ rw (ne_eqb n m other) (is ∙ still other)
    ]
  where
    once : n ≡ m → times_taken (less_places places n) m ≡ 1
    once same =
        let below : nat_lt m places.handed ≡ true = grind (arith, nat_tests) in
        let at : with_value places.place n 0 m ≡ 0 = rw same (put_same places.place m 0) in
        rw (below, at) refl

    still : (n ≡ m → ⊥) → times_taken places m ≡ times_taken (less_places places n) m
    still other = rw (put_other places.place n 0 m (λ e. other (sym e))) refl

times_cons : (m : ℕ) (kept : Kept) (taken : List Kept) → times m (kept ∷ taken) ≡ (if kept.node.0 == m then suc (times m taken) else times m taken)
times_cons m kept taken = by (kept.node.0 == m)
  where
    by : (b : Bool) → length {A = Kept} (if b then kept ∷ filter (λ k. k.node.0 == m) taken else filter (λ k. k.node.0 == m) taken)
        ≡ (if b then suc (times m taken) else times m taken)
    by true = refl
    by false = refl

taking_knows : (tables : Tables) (tries : ℕ) (log : List Event) (places : Places) (id other : ℕ) (view node : View) →
    KnowsRoot tables tries log places id view → KnowsNode tables tries log places other node →
    KnowsRoot tables tries log (less_places places node.walk.node.0) id (taking view node)
taking_knows tables tries log places id other view node root knows =
    record {
      first = root.first;
      line = root.line;
      tries_are = root.tries_are;
      handed = root.handed;
      kept = (record { history = knows.walk.history; mind = knows.walk.mind }, root.kept);
      taken = λ m.
          times_cons m (kept_of node.walk) view.taken
          ∙ times_less places node.walk.node.0 m (times m view.taken) knows.handed (λ zero. knows.later (sym knows.place ∙ zero)) (root.taken m);
    }

staying_knows : (tables : Tables) (tries : ℕ) (log : List Event) (places : Places) (id other seat n : ℕ) (view : View) (role : Role) →
    places.place n ≡ other → seat ≢ other → seat ≢ 0 → Knows tables tries log places seat view role →
    Knows tables tries log (less_places places n) seat view role
staying_knows tables tries log places id other seat n view Root place away later knows = absurd (later knows.first)
staying_knows tables tries log places id other seat n view Node place away later knows =
    record {
      later = knows.later;
      line = knows.line;
      tries_are = knows.tries_are;
      handed = knows.handed;
      place = put_other places.place n 0 view.walk.node.0 (λ same. away (sym knows.place ∙ (ap places.place same ∙ place))) ∙ knows.place;
      walk = knows.walk;
    }
staying_knows tables tries log places id other seat n view Spent place away later knows = tt

pub join_keeps : (tables : Tables) (tries id : ℕ) (view : View) (other : ℕ) (node : View) → view.role ≡ Root → node.role ≡ Node →
    Joins (IsRuled tables tries) id view other node (taking view node) spent
join_keeps tables tries id view other node role plays s ruled there apart them =
    let both : View = taking view node in
    let n : ℕ = node.walk.node.0 in
    let theirs : get_elem? s.views other ≡ some node = sym (set_else s.views id other (taking view node) apart) ∙ them in
    let root : KnowsRoot tables tries ruled.log ruled.places id view =
    as_role tables tries ruled.log ruled.places id view Root role (ruled.each id view there) in
    let knows : KnowsNode tables tries ruled.log ruled.places other node =
    as_role tables tries ruled.log ruled.places other node Node plays (ruled.each other node theirs) in
    let root_after : Knows tables tries ruled.log (less_places ruled.places node.walk.node.0) id (taking view node) Root =
    taking_knows tables tries ruled.log ruled.places id other view node root knows in
    record {
      line = ruled.line;
      few_tries = ruled.few_tries;
      log = ruled.log;
      run = ruled.run;
      words = ruled.words;
      places = less_places ruled.places node.walk.node.0;
      few = ruled.few;
      unborn = ruled.unborn;
      short = ruled.short;
      root = record {
        view = taking view node;
        there = subst (λ (k : ℕ). get_elem? (slice_set (slice_set s.views id (taking view node)) other spent) k ≡ some (taking view node)) root.first
            (set_else (slice_set s.views id (taking view node)) other id spent (λ e. apart (sym e))
            ∙ set_here s.views id (taking view node) (at_within s.views id view there));
        role = role;
      };
      nodes = λ m handed standing.
          let differs : (m ≡ node.walk.node.0 → ⊥) = λ same. standing (rw same (put_same ruled.places.place node.walk.node.0 0)) in
          let at : with_value ruled.places.place node.walk.node.0 0 m ≡ ruled.places.place m = put_other ruled.places.place node.walk.node.0 0 m differs in
          let was : IsNodeAt s.views (ruled.places.place m) m = ruled.nodes m handed (λ zero. standing (at ∙ zero)) in
          let not_other : ruled.places.place m ≢ other = λ e.
          let is : was.view ≡ node = same_at s.views other was.view node (subst (λ (k : ℕ). get_elem? s.views k ≡ some was.view) e was.there) theirs in
          differs (sym was.node ∙ ap (λ (v : View). v.walk.node.0) is) in
          let not_root : ruled.places.place m ≢ id = λ e. standing (at ∙ (e ∙ root.first)) in
          record {
            view = was.view;
            there = subst (λ (k : ℕ). get_elem? (slice_set (slice_set s.views id (taking view node)) other spent) k ≡ some was.view) (sym at)
                (set_else (slice_set s.views id (taking view node)) other (ruled.places.place m) spent not_other
                ∙ (set_else s.views id (ruled.places.place m) (taking view node) not_root ∙ was.there));
            role = was.role;
            node = was.node;
          };
      each = λ seat that at.
          ⊎_elim
          (λ (t : (seat ≡ other) × (spent ≡ that)). as_view tables tries ruled.log (less_places ruled.places node.walk.node.0) other seat that spent t.0 t.1 tt)
          (λ (t : (seat ≢ other) × (get_elem? (slice_set s.views id (taking view node)) seat ≡ some that)).
          ⊎_elim
          (λ (u : (seat ≡ id) × (taking view node ≡ that)). as_view tables tries ruled.log (less_places ruled.places node.walk.node.0) id seat that
          (taking view node) u.0 u.1
          (from_role tables tries ruled.log (less_places ruled.places node.walk.node.0) id (taking view node) Root role root_after))
          (λ (u : (seat ≢ id) × (get_elem? s.views seat ≡ some that)). staying_knows tables tries ruled.log ruled.places id other seat node.walk.node.0 that
          that.role knows.place t.0 (λ zero. u.0 (zero ∙ sym root.first)) (ruled.each seat that u.1))
          (at_set s.views id seat (taking view node) that t.1))
          (at_set (slice_set s.views id (taking view node)) other seat spent that at);
    }
