-- Chained histories: their merge is a run, and leads to what the chains say.
use Rattle.std.proofs.Common.{◌≡◌, ◌≢◌, ℕ, suc, ◌<◌, ◌≤◌, ◌==◌, ◌⊎◌, inl, inr, Bool, true, false}
use Rattle.std.proofs.Common.{cond, List, [], ◌∷◌, Contains, slice_get, slice_set, Some, refl, sym, ap, ◌∙◌, subst, arith}
use Rattle.std.specs.Option.{option_map_or}
use Rattle.std.proofs.lemmas.Bool.{cases_eq, ne_eqb}
use Rattle.std.proofs.lemmas.Bool.Decides.{nat_tests}
use Rattle.rl_words.specs.Stamps.{payload_in}
use Rattle.rl_record.specs.declared.event.Event.{Event}
use Rattle.rl_record.specs.Merge.{history, IsBefore, IsAfterAll, Falls, IsMerge}
use Rattle.rl_record.proofs.Members.{Has, has_in_history, has_from_history, has_from_contains, contains_from_has}
use Rattle.rl_record.proofs.Falling.{after_has}
use Rattle.rl_tables.specs.declared.table.Tables.{Tables}
use Rattle.rl_steps.specs.declared.mind.Mind.{Mind}
use Rattle.rl_steps.specs.Step.{node_step}
use Rattle.rl_steps.specs.State.{CoreState, start, next_stamp, mind_after, with_value}
use Rattle.rl_steps.specs.Run.{EventFits, IsRun, state}
use Rattle.rl_steps.proofs.Made.{IsMade, fits_made}
use Rattle.rl_steps.proofs.Options.{get_set_same, get_set_other}
use Rattle.rl_merge.specs.Chains.{mind_left, clock_left, IsNodeStep, IsNodeChain, IsOn, HeldBefore, AreChained, AreLeft}
use Rattle.rl_merge.proofs.Exchange.{put_same, put_other, made_fits}

-- the history of the event's node, and of any other
pub own_history : (e : Event) (log : List Event) (n : ℕ) → n ≡ e.node.0 → history n (e ∷ log) ≡ e ∷ history n log
own_history e log n same =
    let passes : (e.node.0 == n) ≡ true = grind (arith, nat_tests) in
    ap (λ (b : Bool). cond b (e ∷ history n log) (history n log)) passes

pub other_history : (e : Event) (log : List Event) (n : ℕ) → n ≢ e.node.0 → history n (e ∷ log) ≡ history n log
other_history e log n other =
    let fails : (e.node.0 == n) ≡ false = ne_eqb e.node.0 n (λ same. other (sym same)) in
    ap (λ (b : Bool). cond b (e ∷ history n log) (history n log)) fails

-- the events of a sorted list that is the beginning of a merge: they stand in the histories, all others come later
record IsBeginning (tables : Tables) (tries : ℕ) (h : ℕ → List Event) (log : List Event) : Type 0 where
  pub falls : Falls log
  pub inside : (e : Event) → Has log e → Contains (h e.node.0) e
  pub others : (e : Event) → Contains (h e.node.0) e → Has log e ⊎ ((f : Event) → Has log f → f.stamp ≤ e.stamp)
  pub nodes : (n : ℕ) → IsNodeChain tables tries n (history n log)

no_later : (f e : Event) → IsBefore f e → f.stamp ≤ e.stamp
no_later f e (inl less) = omega arith
no_later f e (inr both) = omega arith

tail_chain : (tables : Tables) (tries : ℕ) (e : Event) (log : List Event) (n : ℕ) → IsNodeChain tables tries n (history n (e ∷ log))
    → IsNodeChain tables tries n (history n log)
tail_chain tables tries e log n chain =
    let Chain : List Event → Type 0 = λ l. IsNodeChain tables tries n l in
    elim (cases_eq n e.node.0) [
      | inl same ↦ (subst Chain (own_history e log n same) chain).0
      | inr other ↦ subst Chain (other_history e log n other) chain
    ]

tail_others : (e : Event) (log : List Event) (x : Event) → IsAfterAll e log → Has (e ∷ log) x ⊎ ((f : Event) → Has (e ∷ log) f → f.stamp ≤ x.stamp)
    → Has log x ⊎ ((f : Event) → Has log f → f.stamp ≤ x.stamp)
tail_others e log x last (inl (inl is)) =
    inr (λ f h.
    let low : f.stamp ≤ e.stamp = no_later f e (after_has e log f last h) in
    let same : e.stamp ≡ x.stamp = ap (λ (y : Event). y.stamp) is in
    omega arith)
tail_others e log x last (inl (inr there)) = inl there
tail_others e log x last (inr low) = inr (λ f h. low f (inr h))

tail : (tables : Tables) (tries : ℕ) (h : ℕ → List Event) (e : Event) (log : List Event) → IsBeginning tables tries h (e ∷ log) → IsBeginning tables tries h log
tail tables tries h e log whole =
    record {
      falls = whole.falls.1;
      inside = λ f there. whole.inside f (inr there);
      others = λ x there. tail_others e log x whole.falls.0 (whole.others x there);
      nodes = λ n. tail_chain tables tries e log n (whole.nodes n);
    }

-- what a word holds after a sorted run: what the newest event on it left, or what it held at the start
pub record IsNewest (c : CoreState) (log : List Event) (w : ℕ) (g : Event) : Type 0 where
  pub there : Has log g
  pub word : g.word.0 ≡ w
  pub greatest : (f : Event) → Has log f → f.word.0 ≡ w → f.stamp ≤ g.stamp
  pub holds : slice_get c.words w ≡ Some g.now

pub record IsBare (tables : Tables) (tries : ℕ) (c : CoreState) (log : List Event) (w : ℕ) : Type 0 where
  pub none : (f : Event) → Has log f → f.word.0 ≢ w
  pub holds : slice_get c.words w ≡ slice_get (start tables tries).words w

abbrev pub Word : Tables → ℕ → List Event → ℕ → Type 0
Word tables tries log w = ((g : Event) × IsNewest (state tables tries log) log w g) ⊎ IsBare tables tries (state tables tries log) log w

word_other : (tables : Tables) (tries : ℕ) (e : Event) (log : List Event) (w : ℕ) → w ≢ e.word.0 → Word tables tries log w → Word tables tries (e ∷ log) w
word_other tables tries e log w other (inl (g, newest)) =
    let kept = get_set_other (state tables tries log).words e.word.0 w e.now other in
    inl (
      g,
      record {
        there = inr newest.there;
        word = newest.word;
        greatest = λ f h word. elim h [ inl is ↦ absurd (other (sym (ap (λ (x : Event). x.word.0) is ∙ word))) | inr there ↦ newest.greatest f there word ];
        holds = kept ∙ newest.holds;
      },
    )
word_other tables tries e log w other (inr bare) =
    let kept = get_set_other (state tables tries log).words e.word.0 w e.now other in
    inr record {
      none = λ f h word. elim h [ inl is ↦ other (sym (ap (λ (x : Event). x.word.0) is ∙ word)) | inr there ↦ bare.none f there word ];
      holds = kept ∙ bare.holds;
    }

word_own : (tables : Tables) (tries : ℕ) (e : Event) (log : List Event) (w : ℕ) → IsAfterAll e log → EventFits tables (state tables tries log) e
    → w ≡ e.word.0 → Word tables tries (e ∷ log) w
word_own tables tries e log w last fits same =
    let made = fits_made tables (state tables tries log) e fits in
    let At : ℕ → Type 0 = λ k. slice_get (slice_set (state tables tries log).words e.word.0 e.now) k ≡ Some e.now in
    inl (
      e,
      record {
        there = inl refl;
        word = sym same;
        greatest = λ f h word. elim h [
          | inl is ↦ (let stamp : e.stamp ≡ f.stamp = ap (λ (x : Event). x.stamp) is in omega arith)
          | inr there ↦ no_later f e (after_has e log f last there)
        ];
        holds = subst At (sym same) (get_set_same (state tables tries log).words e.word.0 e.was e.now made.was);
      },
    )

pub word_at : (tables : Tables) (tries : ℕ) (log : List Event) → Falls log → IsRun tables tries log → (w : ℕ) → Word tables tries log w
word_at tables tries [] falls run w = inr record { none = λ f h word. h; holds = refl }
word_at tables tries (e ∷ log) falls run w =
    elim (cases_eq w e.word.0) [
      | inl same ↦ word_own tables tries e log w falls.0 run.1 same
      | inr other ↦ word_other tables tries e log w other (word_at tables tries log falls.1 run.0 w)
    ]

-- so it holds what the chains say
record Covers (h : ℕ → List Event) (log : List Event) (w s : ℕ) : Type 0 where
  pub below : (g : Event) → Has log g → g.word.0 ≡ w → g.stamp < s
  pub all : (x : Event) → IsOn h w x → x.stamp < s → Has log x

held_word : (tables : Tables) (tries : ℕ) (h : ℕ → List Event) (log : List Event) (w s v : ℕ) → AreChained tables tries h → IsBeginning tables tries h log
    → Covers h log w s → HeldBefore tables tries h w s v → Word tables tries log w → slice_get (state tables tries log).words w ≡ Some v
held_word tables tries h log w s v chained begins covers (inl (f, latest, is)) (inl (g, newest)) =
    let on : IsOn h w g = record { there = begins.inside g newest.there; word = newest.word } in
    let low : g.stamp ≤ f.stamp = latest.greatest g on (covers.below g newest.there newest.word) in
    let high : f.stamp ≤ g.stamp = newest.greatest f (covers.all f latest.on latest.below) latest.on.word in
    let same : g ≡ f = chained.apart w g f on latest.on (omega arith) in
    newest.holds ∙ ap (λ (x : Event). Some x.now) same ∙ ap (λ (k : ℕ). Some k) is
held_word tables tries h log w s v chained begins covers (inl (f, latest, is)) (inr bare) =
    absurd (bare.none f (covers.all f latest.on latest.below) latest.on.word)
held_word tables tries h log w s v chained begins covers (inr untouched) (inl (g, newest)) =
    let on : IsOn h w g = record { there = begins.inside g newest.there; word = newest.word } in
    let high : s ≤ g.stamp = untouched.none g on in
    let low : g.stamp < s = covers.below g newest.there newest.word in
    absurd (omega arith)
held_word tables tries h log w s v chained begins covers (inr untouched) (inr bare) = bare.holds ∙ untouched.began

-- the event that comes next in a merge finds its word so
strictly : (g e : Event) → IsBefore g e → (g.stamp ≡ e.stamp → g ≡ e) → g.stamp < e.stamp
strictly g e (inl less) same = less
strictly g e (inr both) same =
    let node : g.node.0 ≡ e.node.0 = ap (λ (x : Event). x.node.0) (same both.0) in
    absurd (omega (arith, both.1))

next_below : (tables : Tables) (tries : ℕ) (h : ℕ → List Event) (e : Event) (log : List Event) → AreChained tables tries h
    → IsBeginning tables tries h (e ∷ log) → (g : Event) → Has log g → g.word.0 ≡ e.word.0 → g.stamp < e.stamp
next_below tables tries h e log chained whole g there word =
    let before : IsBefore g e = after_has e log g whole.falls.0 there in
    let on_g : IsOn h e.word.0 g = record { there = whole.inside g (inr there); word = word } in
    let on_e : IsOn h e.word.0 e = record { there = whole.inside e (inl refl); word = refl } in
    strictly g e before (λ stamp. chained.apart e.word.0 g e on_g on_e stamp)

next_all : (e : Event) (log : List Event) (x : Event) → x.stamp < e.stamp
    → Has (e ∷ log) x ⊎ ((f : Event) → Has (e ∷ log) f → f.stamp ≤ x.stamp) → Has log x
next_all e log x below (inl (inl is)) = let stamp : e.stamp ≡ x.stamp = ap (λ (y : Event). y.stamp) is in absurd (omega arith)
next_all e log x below (inl (inr there)) = there
next_all e log x below (inr low) = let high : e.stamp ≤ x.stamp = low e (inl refl) in absurd (omega arith)

next_word : (tables : Tables) (tries : ℕ) (h : ℕ → List Event) (e : Event) (log : List Event) → AreChained tables tries h
    → IsBeginning tables tries h (e ∷ log) → IsRun tables tries log → slice_get (state tables tries log).words e.word.0 ≡ Some e.was
next_word tables tries h e log chained whole run =
    let rest = tail tables tries h e log whole in
    let on : IsOn h e.word.0 e = record { there = whole.inside e (inl refl); word = refl } in
    let covers : Covers h log e.word.0 e.stamp = record {
      below = next_below tables tries h e log chained whole;
      all = λ x there below. next_all e log x below (whole.others x there.there);
    } in
    held_word tables tries h log e.word.0 e.stamp e.was chained rest covers (chained.found e.word.0 e on)
    (word_at tables tries log rest.falls run e.word.0)

-- the minds and clocks of a beginning are those of its histories
pub record IsLed (tables : Tables) (tries : ℕ) (log : List Event) : Type 0 where
  pub run : IsRun tables tries log
  pub minds : (n : ℕ) → (state tables tries log).minds n ≡ mind_left tables tries n (history n log)
  pub clocks : (n : ℕ) → (state tables tries log).clocks n ≡ clock_left (history n log)

own_step : (tables : Tables) (tries : ℕ) (h : ℕ → List Event) (e : Event) (log : List Event) → IsBeginning tables tries h (e ∷ log)
    → IsNodeStep tables e.node.0 (clock_left (history e.node.0 log)) (mind_left tables tries e.node.0 (history e.node.0 log)) e
own_step tables tries h e log whole =
    let Chain : List Event → Type 0 = λ l. IsNodeChain tables tries e.node.0 l in
    (subst Chain (own_history e log e.node.0 refl) (whole.nodes e.node.0)).1

next_made : (tables : Tables) (tries : ℕ) (h : ℕ → List Event) (e : Event) (log : List Event) → AreChained tables tries h
    → IsBeginning tables tries h (e ∷ log) → IsLed tables tries log → IsMade tables (state tables tries log) e
next_made tables tries h e log chained whole led =
    let c = state tables tries log in
    let own = own_step tables tries h e log whole in
    let Steps : Mind → Type 0 = λ m. node_step tables e.node.0 m e.word.0 (payload_in e.was) ≡ Some own.made in
    let Stamps : ℕ → Type 0 = λ k. e.stamp ≡ next_stamp k e.was in
    let step : node_step tables e.node.0 (c.minds e.node.0) e.word.0 (payload_in e.was) ≡ Some own.made = subst Steps (sym (led.minds e.node.0)) own.step in
    record {
      made = own.made;
      was = next_word tables tries h e log chained whole led.run;
      step = step;
      stamp = subst Stamps (sym (led.clocks e.node.0)) own.stamp;
      now = own.now;
      mind = rw step refl;
    }

pub led_minds : (tables : Tables) (tries : ℕ) (e : Event) (log : List Event) → IsLed tables tries log
    → (n : ℕ) → (state tables tries (e ∷ log)).minds n ≡ mind_left tables tries n (history n (e ∷ log))
led_minds tables tries e log led n =
    let c = state tables tries log in
    elim (cases_eq n e.node.0) [
      | inl same ↦ (
          let MindAt : ℕ → Type 0 = λ m. with_value c.minds e.node.0 (mind_after tables c e) m ≡ mind_after tables c e in
          let After : Mind → Mind = λ m. option_map_or (λ (r : ℕ × Mind). r.1) (node_step tables e.node.0 m e.word.0 (payload_in e.was)) m in
          let now : with_value c.minds e.node.0 (mind_after tables c e) n ≡ mind_after tables c e =
          subst MindAt (sym same) (put_same c.minds e.node.0 (mind_after tables c e)) in
          let before : c.minds e.node.0 ≡ mind_left tables tries e.node.0 (history e.node.0 log) = led.minds e.node.0 in
          let there : After (mind_left tables tries e.node.0 (history e.node.0 log)) ≡ mind_left tables tries n (e ∷ history n log) =
          ap (λ (k : ℕ). mind_left tables tries k (e ∷ history k log)) (sym same) in
          now ∙ ap After before ∙ there ∙ ap (λ (l : List Event). mind_left tables tries n l) (sym (own_history e log n same)))
      | inr other ↦ put_other c.minds e.node.0 (mind_after tables c e) n other ∙ led.minds n
          ∙ ap (λ (l : List Event). mind_left tables tries n l) (sym (other_history e log n other))
    ]

pub led_clocks : (tables : Tables) (tries : ℕ) (e : Event) (log : List Event) → IsLed tables tries log
    → (n : ℕ) → (state tables tries (e ∷ log)).clocks n ≡ clock_left (history n (e ∷ log))
led_clocks tables tries e log led n =
    let c = state tables tries log in
    elim (cases_eq n e.node.0) [
      | inl same ↦ (
          let Clock : ℕ → Type 0 = λ m. with_value c.clocks e.node.0 e.stamp m ≡ e.stamp in
          subst Clock (sym same) (put_same c.clocks e.node.0 e.stamp) ∙ ap clock_left (sym (own_history e log n same)))
      | inr other ↦ put_other c.clocks e.node.0 e.stamp n other ∙ led.clocks n ∙ ap clock_left (sym (other_history e log n other))
    ]

led : (tables : Tables) (tries : ℕ) (h : ℕ → List Event) (log : List Event) → AreChained tables tries h → IsBeginning tables tries h log
    → IsLed tables tries log
led tables tries h [] chained begins = record { run = tt; minds = λ n. refl; clocks = λ n. refl }
led tables tries h (e ∷ log) chained begins =
    let before = led tables tries h log chained (tail tables tries h e log begins) in
    record {
      run = (before.run, made_fits tables (state tables tries log) e (next_made tables tries h e log chained begins before));
      minds = led_minds tables tries e log before;
      clocks = led_clocks tables tries e log before;
    }

-- a merge is such a beginning
node_chain_node : (tables : Tables) (tries n : ℕ) (xs : List Event) → IsNodeChain tables tries n xs → (e : Event) → Has xs e → e.node.0 ≡ n
node_chain_node tables tries n [] chain e h = absurd h
node_chain_node tables tries n (x ∷ xs) chain e (inl is) = ap (λ (y : Event). y.node.0) (sym is) ∙ chain.1.node
node_chain_node tables tries n (x ∷ xs) chain e (inr h) = node_chain_node tables tries n xs chain.0 e h

begins : (tables : Tables) (tries : ℕ) (h : ℕ → List Event) (merged : List Event) → AreChained tables tries h → IsMerge h merged
    → IsBeginning tables tries h merged
begins tables tries h merged chained merge =
    record {
      falls = merge.falls;
      inside = λ e there.
          let In : List Event → Type 0 = λ l. Has l e in
          contains_from_has (h e.node.0) e (subst In (merge.parts e.node.0) (has_in_history merged e there));
      others = λ e there.
          let In : List Event → Type 0 = λ l. Has l e in
          inl (has_from_history e.node.0 merged e (subst In (sym (merge.parts e.node.0)) (has_from_contains (h e.node.0) e there))).0;
      nodes = λ n. let Chain : List Event → Type 0 = λ l. IsNodeChain tables tries n l in subst Chain (sym (merge.parts n)) (chained.nodes n);
    }

-- a number above every stamp of a sorted list
above : List Event → ℕ
above [] = 0
above (e ∷ log) = suc e.stamp

below_above : (log : List Event) → Falls log → (g : Event) → Has log g → g.stamp < above log
unfolding above
below_above [] falls g h = absurd h
below_above (e ∷ log) falls g (inl is) = let stamp : e.stamp ≡ g.stamp = ap (λ (x : Event). x.stamp) is in omega arith
below_above (e ∷ log) falls g (inr h) = let low : g.stamp ≤ e.stamp = no_later g e (after_has e log g falls.0 h) in omega arith

pub chained_run : (tables : Tables) (tries : ℕ) (h : ℕ → List Event) (merged : List Event) → AreChained tables tries h → IsMerge h merged
    → IsRun tables tries merged
chained_run tables tries h merged chained merge = (led tables tries h merged chained (begins tables tries h merged chained merge)).run

pub chained_minds : (tables : Tables) (tries : ℕ) (h : ℕ → List Event) (merged : List Event) (words : List ℕ) (minds : ℕ → Mind)
    → AreChained tables tries h → IsMerge h merged
    → AreLeft tables tries h words minds → (n : ℕ) → (state tables tries merged).minds n ≡ minds n
chained_minds tables tries h merged words minds chained merge left n =
    (led tables tries h merged chained (begins tables tries h merged chained merge)).minds n
    ∙ ap (λ (l : List Event). mind_left tables tries n l) (merge.parts n)
    ∙ sym (left.minds_are n)

pub chained_words : (tables : Tables) (tries : ℕ) (h : ℕ → List Event) (merged : List Event) (words : List ℕ) (minds : ℕ → Mind)
    → AreChained tables tries h → IsMerge h merged
    → AreLeft tables tries h words minds → (w v : ℕ) → slice_get words w ≡ Some v → slice_get (state tables tries merged).words w ≡ Some v
chained_words tables tries h merged words minds chained merge left w v at =
    let whole = begins tables tries h merged chained merge in
    let run = chained_run tables tries h merged chained merge in
    let inside : (x : Event) → IsOn h w x → Has merged x = λ x on.
    let In : List Event → Type 0 = λ l. Has l x in
    (has_from_history x.node.0 merged x (subst In (sym (merge.parts x.node.0)) (has_from_contains (h x.node.0) x on.there))).0 in
    let covers : Covers h merged w (above merged) = record {
      below = λ g there word. below_above merged whole.falls g there;
      all = λ x on below. inside x on;
    } in
    held_word tables tries h merged w (above merged) v chained whole covers
    (left.words_are w v (above merged) at (λ e on. below_above merged whole.falls e (inside e on)))
    (word_at tables tries merged whole.falls run w)
