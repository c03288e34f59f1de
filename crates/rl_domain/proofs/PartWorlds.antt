-- The rows of parts are their world, and fit the network.
use Rattle.std.proofs.Common.{◌≡◌, ℕ, ◌+◌, ◌==◌, Bool, true, false, ◌&&◌, List, length, slice_get, Option, Some, None, refl, sym, ◌∙◌, ap, arith, inl, inr}
use Rattle.std.specs.Option.{option_map_or}
use Rattle.std.proofs.lemmas.Bool.{eq-eqb}
use Rattle.std.proofs.lemmas.Bool.Decides.{nat_tests}
use Rattle.std.proofs.lemmas.Option.{slice_get_past, slice_get_cases}
use Rattle.rl_model.specs.declared.network.NetworkPlan.{NetworkPlan}
use Rattle.rl_model.specs.Network.{arm_of, route_segment}
use Rattle.rl_domain.specs.declared.parts.Spot.{Spot}
use Rattle.rl_domain.specs.declared.states.BoxState.{BoxState}
use Rattle.rl_domain.specs.declared.states.Passage.{Passage}
use Rattle.rl_domain.specs.declared.states.Standing.{Standing}
use Rattle.rl_domain.specs.Parts.{is_route_segment, is_route_step, occupies_at, across_at, world_of_parts, IsSpot, AreParts}
use Rattle.rl_domain.specs.PartRows.{IsAcrossOf, IsStandingAt, IsStandingOf, AreStandingsOf}
use Rattle.rl_domain.specs.Rows.{Rows, world_of, Fits, IsStanding, IsPassage}
use Rattle.rl_domain.specs.States.{is_train, is_lock, holder_at, stands_on, stands_across}
use Rattle.rl_domain.proofs.Apart.{points_connect_apart}
use Rattle.rl_domain.proofs.Worlds.{same_world}

either_way : (a b : ℕ) → (a == b) ≡ (b == a)
either_way a b = grind (arith, nat_tests)

-- the head of a train that is across, and its passage
ahead : (net : NetworkPlan) (t k s : ℕ) (across : Bool) (o : Option Passage) → IsAcrossOf net t k across o
    → option_map_or (λ (p : Passage). s == p.to.0) o false ≡ (across && is_route_segment net t (k + 1) s)
ahead net t k s true (Some p) is = rw is.to (either_way s p.to.0)
ahead net t k s true None is = absurd is
ahead net t k s false (Some p) is = absurd is
ahead net t k s false None is = refl

over : (net : NetworkPlan) (t k b from to on : ℕ) (across : Bool) (o : Option Passage) → route_segment net t k ≡ Some on → IsAcrossOf net t k across o
    → option_map_or (λ (p : Passage). b == p.b.0 && from == on && to == p.to.0) o false ≡ (across && is_route_step net t k b from to)
over net t k b from to on true (Some p) on_is is =
    rw (is.box, is.to, on_is, either_way b p.b.0, either_way from on, either_way to p.to.0) refl
over net t k b from to on true None on_is is = absurd is
over net t k b from to on false (Some p) on_is is = absurd is
over net t k b from to on false None on_is is = refl

stands_on_at : (net : NetworkPlan) (t s : ℕ) (spot : Spot) (x : Standing) → IsStandingAt net t spot x → stands_on s x ≡ occupies_at net t s spot
stands_on_at net t s spot x at =
    rw (ahead net t spot.step s spot.across x.across at.across, at.on, either_way s x.on.0) refl

stands_across_at : (net : NetworkPlan) (t b from to : ℕ) (spot : Spot) (x : Standing) → IsStandingAt net t spot x
    → stands_across b from to x ≡ across_at net t b from to spot
stands_across_at net t b from to spot x at = over net t spot.step b from to x.on.0 spot.across x.across at.on at.across

-- the tests of the trains
occupies_parts : (net : NetworkPlan) (xs : List Standing) (spots : List Spot) (t s : ℕ) → AreStandingsOf net spots xs
    → option_map_or (stands_on s) (slice_get xs t) false ≡ option_map_or (occupies_at net t s) (slice_get spots t) false
occupies_parts net xs spots t s of =
    elim (slice_get_cases xs t).1 [
      | inl here ↦
          let is = of.each t here.0 here.2 in
          rw (here.2, is.there) (stands_on_at net t s is.spot here.0 is.stands)
      | inr past ↦ let gone = slice_get_past spots t (omega (arith, of.count, past.0)) in rw (past.1, gone) refl
    ]

across_parts : (net : NetworkPlan) (xs : List Standing) (spots : List Spot) (t b from to : ℕ) → AreStandingsOf net spots xs
    → option_map_or (stands_across b from to) (slice_get xs t) false ≡ option_map_or (across_at net t b from to) (slice_get spots t) false
across_parts net xs spots t b from to of =
    elim (slice_get_cases xs t).1 [
      | inl here ↦
          let is = of.each t here.0 here.2 in
          rw (here.2, is.there) (stands_across_at net t b from to is.spot here.0 is.stands)
      | inr past ↦ let gone = slice_get_past spots t (omega (arith, of.count, past.0)) in rw (past.1, gone) refl
    ]

made_parts : (net : NetworkPlan) (xs : List Standing) (spots : List Spot) (t : ℕ) → AreStandingsOf net spots xs
    → option_map_or (λ (x : Standing). x.made) (slice_get xs t) 0 ≡ option_map_or (λ (x : Spot). x.step) (slice_get spots t) 0
made_parts net xs spots t of =
    elim (slice_get_cases xs t).1 [
      | inl here ↦
          let is = of.each t here.0 here.2 in
          rw (here.2, is.there) is.stands.made
      | inr past ↦ let gone = slice_get_past spots t (omega (arith, of.count, past.0)) in rw (past.1, gone) refl
    ]

-- the tests of the boxes
holds_parts : (t : ℕ) (arm : Option ℕ) (o : Option BoxState)
    → is_train t (option_map_or (λ x. option_map_or (λ state. holder_at state x) o None) arm None)
    ≡ option_map_or (λ x. option_map_or (λ state. is_train t (holder_at state x)) o false) arm false
holds_parts t None o = refl
holds_parts t (Some x) None = refl
holds_parts t (Some x) (Some state) = refl

locked_parts : (t from to : ℕ) (o : Option BoxState)
    → is_lock t from to (option_map_or (λ (x : BoxState). x.lock) o None) ≡ option_map_or (λ (x : BoxState). is_lock t from to x.lock) o false
locked_parts t from to None = refl
locked_parts t from to (Some x) = refl

rows_world : (net : NetworkPlan) (rows : Rows) (spots : List Spot) → AreStandingsOf net spots rows.trains
    → world_of net rows ≡ world_of_parts net spots rows.boxes
rows_world net rows spots of =
    same_world (world_of net rows) (world_of_parts net spots rows.boxes)
    (λ t s. occupies_parts net rows.trains spots t s of)
    (λ t b from to. across_parts net rows.trains spots t b from to of)
    (λ t s b. holds_parts t (arm_of net s b) (slice_get rows.boxes b))
    (λ b t from to. locked_parts t from to (slice_get rows.boxes b))
    (λ b. refl)
    (λ t. made_parts net rows.trains spots t of)

pub parts_world : (net : NetworkPlan) (rows : Rows) (spots : List Spot) (boxes : List BoxState) → AreStandingsOf net spots rows.trains → rows.boxes ≡ boxes
    → world_of net rows ≡ world_of_parts net spots boxes
parts_world net rows spots boxes of same = rows_world net rows spots of ∙ ap (world_of_parts net spots) same

-- a train across a box goes to another segment, since the points connect the two
passage_fits : (net : NetworkPlan) (spots : List Spot) (boxes : List BoxState) (t : ℕ) (spot : Spot) (x : Standing) (p : Passage) (across : Bool)
    → AreParts net spots boxes → slice_get spots t ≡ Some spot → IsStandingAt net t spot x → x.across ≡ Some p → spot.across ≡ across
    → IsAcrossOf net t spot.step across (Some p) → IsPassage net x.on.0 p
passage_fits net spots boxes t spot x p false parts there at is goes of = absurd of
passage_fits net spots boxes t spot x p true parts there at is goes of =
    let seen : stands_across p.b.0 x.on.0 p.to.0 x ≡ true = rw (is, eq-eqb p.b.0 p.b.0 refl, eq-eqb x.on.0 x.on.0 refl, eq-eqb p.to.0 p.to.0 refl) refl in
    let told : (world_of_parts net spots boxes).across t p.b.0 x.on.0 p.to.0 ≡ true =
    rw there (sym (stands_across_at net t p.b.0 x.on.0 p.to.0 spot x at) ∙ seen) in
    record {
      box = of.box_there;
      to = of.to_there;
      away = points_connect_apart net p.b.0 x.on.0 p.to.0 _ (parts.kept.connected t p.b.0 x.on.0 p.to.0 told);
    }

going_fits : (net : NetworkPlan) (t k : ℕ) (p : Passage) (across : Bool) → IsAcrossOf net t k across (Some p) → across ≡ true
going_fits net t k p true of = refl
going_fits net t k p false of = absurd of

standing_fits : (net : NetworkPlan) (spots : List Spot) (boxes : List BoxState) (t : ℕ) (x : Standing) → AreParts net spots boxes → IsStandingOf net spots t x
    → IsStanding net t x
standing_fits net spots boxes t x parts is =
    let spot : IsSpot net t is.spot = parts.each t is.spot is.there in
    record {
      made = rw is.stands.made spot.made;
      on = is.stands.segment;
      passage = λ p there. passage_fits net spots boxes t is.spot x p is.spot.across parts is.there is.stands there refl (rw there at is.stands.across);
      going = λ p there. rw is.stands.made (spot.going (going_fits net t is.spot.step p is.spot.across (rw there at is.stands.across)));
    }

pub parts_fit : (net : NetworkPlan) (rows : Rows) (spots : List Spot) (boxes : List BoxState) → AreParts net spots boxes → AreStandingsOf net spots rows.trains
    → rows.boxes ≡ boxes → Fits net rows
parts_fit net rows spots boxes parts of same =
    record {
      trains = of.count ∙ parts.trains;
      boxes = ap length same ∙ parts.count;
      standings = λ t x is. standing_fits net spots boxes t x parts (of.each t x is);
      states = λ b x is. parts.states b x (ap (λ xs. slice_get xs b) (sym same) ∙ is);
    }
