-- The rule of the rails, part by part, from the one run that is behind all views.
use Rattle.std.proofs.Common.{◌≡◌, ◌≢◌, ℕ, zero, suc, ◌<◌, ◌≤◌, nat_lt, List, [], ◌∷◌, length, refl}
use Rattle.std.proofs.Common.{sym, ap, ◌∙◌, subst, inl, inr, true, eq-eqb, arith}
use Rattle.std.proofs.lemmas.Bool.{cases_eq, cases_lt, ne_eqb}
use Rattle.std.proofs.lemmas.Bool.Decides.{nat_tests}
use mathlib.Core.Option.{some, some-injective, some-ne-none}
use lib.ListN.{get_elem?}
use Rattle.atomic_table.specs.Table.{State}
use Rattle.rl_base.specs.Numbers.{IsU32}
use Rattle.rl_record.specs.declared.event.Event.{Event}
use Rattle.rl_record.specs.Merge.{history}
use Rattle.rl_record.proofs.Members.{Has, has_from_contains}
use Rattle.rl_tables.specs.declared.table.Tables.{Tables}
use Rattle.rl_steps.specs.Run.{state}
use Rattle.rl_steps.specs.State.{next_stamp}
use Rattle.rl_merge.specs.Chains.{clock_left, IsNodeChain, AreChained, AreLeft}
use Rattle.rl_rule.specs.declared.views.Kept.{Kept}
use Rattle.rl_rule.specs.declared.views.View.{View}
use Rattle.rl_rule.specs.declared.views.Role.{Role}
use Rattle.rl_rule.specs.declared.views.Role.TheVariants.{Root, Node, Spent}
use Rattle.rl_rule.specs.Ruled.{AreKept, KnowsRoot, KnowsNode, Knows, IsNodeAt, IsRuled}
use Rattle.rl_rule.specs.Histories.{IsHistory, sum_below}
use Rattle.rl_rule.specs.Rule.{places_in, places_of, KeepsRoot, KeepsPlaces, KeepsHistories, KeepsChains, EachKept, KeepsLoads, KeepsBounds, Rule}
use Rattle.rl_rule.proofs.Lists.{in_buckets}
use Rattle.rl_rule.proofs.Others.{as_role, few_in_log, live_not_taken}
use Rattle.rl_rule.proofs.Closings.{none_past}
use Rattle.rl_rule.proofs.Known.{RunsAreSound, ChainLaws}

-- the history of a chained node stands in order
in_chain : (tables : Tables) (tries n : ℕ) (h : List Event) → IsNodeChain tables tries n h → IsHistory n h
in_chain tables tries n [] chain = tt
in_chain tables tries n (e ∷ h) chain =
    let stamp : e.stamp ≡ next_stamp (clock_left h) e.was = chain.1.stamp in
    (chain.1.node, omega arith, in_chain tables tries n h chain.0)

-- no stamp of a history is above its last one
not_above : (n : ℕ) (h : List Event) (e : Event) → IsHistory n h → Has h e → e.stamp ≤ clock_left h
not_above n [] e is h = absurd h
not_above n (f ∷ earlier) e is (inl same) = let stamp : f.stamp ≡ e.stamp = ap (λ (x : Event). x.stamp) same in omega arith
not_above n (f ∷ earlier) e is (inr there) = let low : e.stamp ≤ clock_left earlier = not_above n earlier e is.2 there in omega (arith, is.1)

-- in how many places of the views a node stands
no_place : (n : ℕ) (views : List View) → ((seat : ℕ) (view : View) → get_elem? views seat ≡ some view → places_in n view view.role ≡ 0)
    → places_of n views ≡ 0
no_place n [] none = refl
no_place n (view ∷ views) none =
    let here : places_in n view view.role ≡ 0 = none zero view refl in
    let rest : places_of n views ≡ 0 = no_place n views (λ seat that at. none (suc seat) that at) in
    rw (here, rest) refl

one_place : (n : ℕ) (views : List View) (seat : ℕ) (view : View) → get_elem? views seat ≡ some view → places_in n view view.role ≡ 1
    → ((other : ℕ) (that : View) → get_elem? views other ≡ some that → other ≢ seat → places_in n that that.role ≡ 0) → places_of n views ≡ 1
one_place n [] seat view there here others = absurd (some-ne-none view (sym there))
one_place n (first ∷ views) zero view there here others =
    let In : View → Type 0 = λ v. places_in n v v.role ≡ 1 in
    let own : places_in n first first.role ≡ 1 = subst In (sym (some-injective first view there)) here in
    let rest : places_of n views ≡ 0 = no_place n views (λ other that at. others (suc other) that at (λ e. omega arith)) in
    rw (own, rest) refl
one_place n (first ∷ views) (suc seat) view there here others =
    let none : places_in n first first.role ≡ 0 = others zero first refl (λ e. omega arith) in
    let rest : places_of n views ≡ 1 = one_place n views seat view there here
    (λ other that at away. others (suc other) that at (λ e. away (omega arith))) in
    rw (none, rest) refl

in_role : (n : ℕ) (view : View) (role : Role) → view.role ≡ role → places_in n view view.role ≡ places_in n view role
in_role n view role is = ap (λ (r : Role). places_in n view r) is

module _ (tables : Tables) (tries : ℕ) (s : State (Unit {0}) View) (ruled : IsRuled tables tries s) where
  node_there : (seat : ℕ) (view : View) → get_elem? s.views seat ≡ some view → view.role ≡ Node → KnowsNode tables tries ruled.log ruled.places seat view
  node_there seat view there role = as_role tables tries ruled.log ruled.places seat view Node role (ruled.each seat view there)

  root_there : (seat : ℕ) (view : View) → get_elem? s.views seat ≡ some view → view.role ≡ Root → KnowsRoot tables tries ruled.log ruled.places seat view
  root_there seat view there role = as_role tables tries ruled.log ruled.places seat view Root role (ruled.each seat view there)

  -- a view in another seat than the node's has nothing of it
  away_from : (n seat : ℕ) (view : View) (role : Role) → Knows tables tries ruled.log ruled.places seat view role
      → (n < ruled.places.handed → ruled.places.place n ≢ seat) → places_in n view role ≡ 0
  away_from n seat view Root knows away =
      knows.taken n
      ∙ (elim (cases_lt n ruled.places.handed) [
        | inl within ↦ live_not_taken ruled.places n (λ zero. away within (zero ∙ sym knows.first))
        | inr past ↦ none_past ruled.places n past
      ])
  away_from n seat view Node knows away =
      let other : (view.walk.node.0 ≡ n → ⊥) = λ same.
      away (subst (λ (k : ℕ). k < ruled.places.handed) same knows.handed) (ap ruled.places.place (sym same) ∙ knows.place) in
      rw (ne_eqb view.walk.node.0 n other) refl
  away_from n seat view Spent knows away = refl

  away_at : (n seat : ℕ) (view : View) → get_elem? s.views seat ≡ some view → (n < ruled.places.handed → ruled.places.place n ≢ seat)
      → places_in n view view.role ≡ 0
  away_at n seat view at away = away_from n seat view view.role (ruled.each seat view at) away

  -- a node with place 0 is in the list, once; any other one is in the seat of its place
  stands_once : (n : ℕ) → n < ruled.places.handed → places_of n s.views ≡ 1
  stands_once n within =
      elim (cases_eq (ruled.places.place n) 0) [
        | inl in_list ↦ (
            let root : KnowsRoot tables tries ruled.log ruled.places 0 ruled.root.view = root_there 0 ruled.root.view ruled.root.there ruled.root.role in
            let below : nat_lt n ruled.places.handed ≡ true = grind (arith, nat_tests) in
            let here : places_in n ruled.root.view Root ≡ 1 = root.taken n ∙ (rw (below, in_list) refl) in
            one_place n s.views 0 ruled.root.view ruled.root.there (in_role n ruled.root.view Root ruled.root.role ∙ here)
            (λ other that at away. away_at n other that at (λ handed same. away (sym same ∙ in_list))))
        | inr live ↦ (
            let node : IsNodeAt s.views (ruled.places.place n) n = ruled.nodes n within live in
            let here : places_in n node.view Node ≡ 1 = rw (eq-eqb node.view.walk.node.0 n node.node) refl in
            one_place n s.views (ruled.places.place n) node.view node.there (in_role n node.view Node node.role ∙ here)
            (λ other that at away. away_at n other that at (λ handed same. away (sym same))))
      ]

  stands_nowhere : (n : ℕ) → ruled.places.handed ≤ n → places_of n s.views ≡ 0
  stands_nowhere n past = no_place n s.views (λ seat view at. away_at n seat view at (λ within. absurd (omega arith)))

  root : KeepsRoot ruled.places.handed s.views
  root =
      record {
        seat = 0;
        view = ruled.root.view;
        there = ruled.root.there;
        role = ruled.root.role;
        knows = (root_there 0 ruled.root.view ruled.root.there ruled.root.role).handed;
        one = λ other that at role. (root_there other that at role).first;
      }

  places : KeepsPlaces ruled.places.handed (λ n. history n ruled.log) s.views
  places = record { root = root; one = stands_once; none = stands_nowhere; unborn = ruled.unborn }

  room : IsU32 (length ruled.log)
  room = omega (arith, few_in_log tables ruled.log ruled.places.handed ruled.line ruled.few ruled.unborn ruled.short)

  chained : ChainLaws → AreChained tables tries (λ n. history n ruled.log)
  chained laws = laws.chained tables tries ruled.log ruled.line ruled.few_tries room ruled.run

  clock_is : ChainLaws → (n : ℕ) → (state tables tries ruled.log).clocks n ≡ clock_left (history n ruled.log)
  clock_is laws = laws.clocks tables tries ruled.log ruled.run

  left : ChainLaws → AreLeft tables tries (λ n. history n ruled.log) (state tables tries ruled.log).words (state tables tries ruled.log).minds
  left laws = laws.left tables tries ruled.log ruled.line ruled.few_tries room ruled.run

  histories_stand : ChainLaws → (n : ℕ) → IsHistory n (history n ruled.log)
  histories_stand laws n = in_chain tables tries n (history n ruled.log) ((chained laws).nodes n)

  in_order : ChainLaws → KeepsHistories (λ n. history n ruled.log) s.views
  in_order laws =
      record {
        each = histories_stand laws;
        nodes = λ seat view there role. (node_there seat view there role).walk.history;
        clocks = λ seat view there role.
            let knows : KnowsNode tables tries ruled.log ruled.places seat view = node_there seat view there role in
            rw knows.walk.history (knows.walk.clock ∙ clock_is laws view.walk.node.0);
      }

  chains : ChainLaws → RunsAreSound → KeepsChains tables tries (λ n. history n ruled.log) s.words s.views
  chains laws sound =
      record {
        chained = chained laws;
        left = record { words_are = rw ruled.words ((left laws).words_are); minds_are = λ n. refl };
        size = ap length ruled.words ∙ (sound tables tries ruled.log ruled.line ruled.few_tries room ruled.run).size;
        minds = λ seat view there role.
            let knows : KnowsNode tables tries ruled.log ruled.places seat view = node_there seat view there role in
            rw knows.walk.history (knows.walk.mind ∙ (left laws).minds_are view.walk.node.0);
      }

  each_kept : ChainLaws → (taken : List Kept) → AreKept tables tries ruled.log taken → EachKept tables tries (λ n. history n ruled.log) taken
  each_kept laws [] are = tt
  each_kept laws (kept ∷ more) are = (
    (are.0.history, rw are.0.history (are.0.mind ∙ (left laws).minds_are kept.node.0)),
    each_kept laws more are.1,
  )

  loads : KeepsLoads tables s.words s.views
  loads seat view load there role last owned =
      let knows : KnowsNode tables tries ruled.log ruled.places seat view = node_there seat view there role in
      rw ruled.words ((knows.walk.fresh load last).still owned)

  bounds : ChainLaws → RunsAreSound → KeepsBounds tables ruled.places.handed (λ n. history n ruled.log)
  bounds laws sound =
      record {
        handed_few = ruled.few;
        short = ruled.short;
        stamps = λ n e among.
            let all : sum_below ruled.places.handed (λ m. length (history m ruled.log)) ≡ length ruled.log =
            in_buckets (λ (f : Event). f.node.0) ruled.places.handed ruled.log (λ m past. ap length (ruled.unborn m past)) in
            let low : e.stamp ≤ clock_left (history n ruled.log) =
            not_above n (history n ruled.log) e (histories_stand laws n) (has_from_contains (history n ruled.log) e among) in
            let last : (state tables tries ruled.log).clocks n ≤ length ruled.log =
            (sound tables tries ruled.log ruled.line ruled.few_tries room ruled.run).clocks n in
            omega (arith, clock_is laws n);
      }

  pub rule_holds : ChainLaws → RunsAreSound → Rule tables tries s.words s.views
  rule_holds laws sound =
      record {
        handed = ruled.places.handed;
        histories = λ n. history n ruled.log;
        places = places;
        in_order = in_order laws;
        chains = chains laws sound;
        taken = λ seat view there role. each_kept laws view.taken (root_there seat view there role).kept;
        loads = loads;
        bounds = bounds laws sound;
      }
