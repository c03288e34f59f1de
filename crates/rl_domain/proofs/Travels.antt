-- A train that enters a segment or leaves one: the change of its standing is the change of the world.
use Rattle.std.proofs.Common.{◌≡◌, ℕ, ◌+◌, ◌<◌, ◌≤◌, ◌==◌, ◌≢◌, Bool, true, false, not, ◌&&◌, ◌||◌, cond, length, slice_get, Some, None, refl, sym, ◌∙◌, arith, inl, inr}
use Rattle.std.specs.Option.{option_map_or}
use Rattle.std.proofs.lemmas.Bool.{cases_eq, eq-eqb, eqb-true, ne_eqb, and_right}
use Rattle.std.proofs.lemmas.Bool.Decides.{nat_tests}
use Rattle.std.proofs.lemmas.Option.{slice_get_cases, same_Some}
use Rattle.rl_base.specs.declared.limits.TheConstants.{MAX_STEPS}
use Rattle.rl_base.specs.declared.ids.BoxId.{BoxId}
use Rattle.rl_base.specs.declared.ids.SegId.{SegId}
use Rattle.rl_base.specs.declared.ids.TrainId.{TrainId}
use Rattle.rl_model.specs.declared.moves.Move.TheVariants.{Enter, Leave}
use Rattle.rl_model.specs.declared.network.NetworkPlan.{NetworkPlan}
use Rattle.rl_model.specs.Network.{IsNetwork, steps_of}
use Rattle.rl_model.specs.Moves.{AllHold, guards, after}
use Rattle.rl_domain.specs.declared.states.Passage.{Passage}
use Rattle.rl_domain.specs.declared.states.Standing.{Standing}
use Rattle.rl_domain.specs.States.{stands_on}
use Rattle.rl_domain.specs.Rows.{Rows, world_of, made_of, occupies_of, across_of, Fits, IsStanding}
use Rattle.rl_domain.specs.Changes.{ChangesStanding, enters, leaves}
use Rattle.rl_domain.proofs.Apart.{points_connect_apart}
use Rattle.rl_domain.proofs.Meanings.{no_passage, from_parts}
use Rattle.rl_domain.proofs.Moved.{or_false, and_true}
use Rattle.rl_domain.proofs.Worlds.{same_world}

-- what a look-up in the standings gives after a change: at the train what the new standing gives
changed_look : {B : Type 0} (f : Standing → B) (d : B) (old new : Rows) (t : ℕ) (change : Standing → Standing) (x : Standing) → ChangesStanding old new t change
    → slice_get old.trains t ≡ Some x → option_map_or f (slice_get new.trains t) d ≡ f (change x)
changed_look f d old new t change x changes is = rw (changes.changed x is) refl

or_or : (p q : Bool) → (p || q) ≡ ((p || false) || q)
or_or true q = refl
or_or false q = refl

occupies_entered : (old new : Rows) (t : ℕ) (b : BoxId) (s2 : SegId) (x : Standing) (u y : ℕ) → ChangesStanding old new t (enters b s2)
    → slice_get old.trains t ≡ Some x → x.across ≡ None → occupies_of new u y ≡ (occupies_of old u y || (u == t && y == s2.0))
occupies_entered old new t b s2 x u y changes is off =
    elim (cases_eq u t) [
      | inl here ↦ rw (here, changes.changed x is, is, off, eq-eqb t t refl) (or_or (y == x.on.0) (y == s2.0))
      | inr other ↦ rw (changes.others u other, ne_eqb u t other) (or_false _)
    ]

across_entered : (old new : Rows) (t s : ℕ) (b : BoxId) (s2 : SegId) (x : Standing) (u z f g : ℕ) → ChangesStanding old new t (enters b s2)
    → slice_get old.trains t ≡ Some x → x.across ≡ None → s ≡ x.on.0
    → across_of new u z f g ≡ (across_of old u z f g || (u == t && z == b.0 && f == s && g == s2.0))
across_entered old new t s b s2 x u z f g changes is off from =
    elim (cases_eq u t) [
      | inl here ↦ rw (here, changes.changed x is, is, off, eq-eqb t t refl, from) refl
      | inr other ↦ rw (changes.others u other, ne_eqb u t other) (or_false _)
    ]

made_entered : (old new : Rows) (t : ℕ) (b : BoxId) (s2 : SegId) (x : Standing) (u : ℕ) → ChangesStanding old new t (enters b s2)
    → slice_get old.trains t ≡ Some x → made_of new u ≡ made_of old u
made_entered old new t b s2 x u changes is =
    elim (cases_eq u t) [
      | inl here ↦ rw (here, changes.changed x is, is) refl
      | inr other ↦ rw (changes.others u other) refl
    ]

-- the tail of a train that is across no box is where the train is
pub tail_is : (s : ℕ) (x : Standing) → x.across ≡ None → stands_on s x ≡ true → s ≡ x.on.0
tail_is s x off on = let alone = rw off at on in eqb-true s x.on.0 (or_false _ ∙ alone)

standing_there : (net : NetworkPlan) (rows : Rows) (t : ℕ) → Fits net rows → t < length net.trains → (x : Standing) × (slice_get rows.trains t ≡ Some x)
standing_there net rows t fits within =
    elim (slice_get_cases rows.trains t).1 [
      | inl here ↦ (here.0, here.2)
      | inr past ↦ absurd (omega (arith, fits.trains, past.0))
    ]

pub enter_world : (net : NetworkPlan) (old new : Rows) (t : TrainId) (b : BoxId) (s s2 : SegId) → Fits net old → t.0 < length net.trains
    → ChangesStanding old new t.0 (enters b s2) → AllHold (guards net (world_of net old) (Enter t b s s2))
    → world_of net new ≡ after (world_of net old) (Enter t b s s2)
enter_world net old new t b s s2 fits within changes hold =
    let here = standing_there net old t.0 fits within in
    let x = here.0 in
    let off = no_passage x (rw here.1 at hold.1.0.1) in
    let from = tail_is s.0 x off (rw here.1 at hold.1.0.0) in
    same_world (world_of net new) (after (world_of net old) (Enter t b s s2))
    (λ u y. occupies_entered old new t.0 b s2 x u y changes here.1 off)
    (λ u z f g. across_entered old new t.0 s.0 b s2 x u z f g changes here.1 off from)
    (λ u y z. rw changes.boxes refl)
    (λ z u f g. rw changes.boxes refl)
    (λ z. rw changes.boxes refl)
    (λ u. made_entered old new t.0 b s2 x u changes here.1)

-- the head alone is where both ends were but the tail
head_stays : (y on to : ℕ) → on ≢ to → (y == to || false) ≡ ((y == on || y == to) && not (y == on))
head_stays y on to apart = grind (arith, nat_tests)

occupies_left : (old new : Rows) (t s : ℕ) (x : Standing) (p : Passage) (u y : ℕ) → ChangesStanding old new t leaves → slice_get old.trains t ≡ Some x
    → x.across ≡ Some p → s ≡ x.on.0 → x.on.0 ≢ p.to.0 → occupies_of new u y ≡ (occupies_of old u y && not (u == t && y == s))
occupies_left old new t s x p u y changes is across from apart =
    elim (cases_eq u t) [
      | inl here ↦ rw (here, changes.changed x is, is, across, eq-eqb t t refl, from) (head_stays y x.on.0 p.to.0 apart)
      | inr other ↦ rw (changes.others u other, ne_eqb u t other) (and_true _)
    ]

across_left : (old new : Rows) (t : ℕ) (x : Standing) (p : Passage) (u z f g : ℕ) → ChangesStanding old new t leaves → slice_get old.trains t ≡ Some x
    → x.across ≡ Some p → across_of new u z f g ≡ (across_of old u z f g && not (u == t))
across_left old new t x p u z f g changes is across =
    elim (cases_eq u t) [
      | inl here ↦ rw (here, changes.changed x is, is, across, eq-eqb t t refl) (sym (and_right _ false refl))
      | inr other ↦ rw (changes.others u other, ne_eqb u t other) (and_true _)
    ]

made_left : (old new : Rows) (t : ℕ) (x : Standing) (p : Passage) (u : ℕ) → ChangesStanding old new t leaves → slice_get old.trains t ≡ Some x
    → x.across ≡ Some p → made_of new u ≡ cond (u == t) (made_of old u + 1) (made_of old u)
made_left old new t x p u changes is across =
    elim (cases_eq u t) [
      | inl here ↦ rw (here, changes.changed x is, is, across, eq-eqb t t refl) refl
      | inr other ↦ rw (changes.others u other, ne_eqb u t other) refl
    ]

pub leave_world : (net : NetworkPlan) (old new : Rows) (t : TrainId) (s : SegId) → Fits net old → t.0 < length net.trains → ChangesStanding old new t.0 leaves
    → AllHold (guards net (world_of net old) (Leave t s)) → world_of net new ≡ after (world_of net old) (Leave t s)
leave_world net old new t s fits within changes hold =
    let here = standing_there net old t.0 fits within in
    let x = here.0 in
    let parts = from_parts s.0 x (rw here.1 at hold.0) in
    let p = parts.1.0 in
    let apart = ((fits.standings t.0 x here.1).passage p parts.1.1).away in
    same_world (world_of net new) (after (world_of net old) (Leave t s))
    (λ u y. occupies_left old new t.0 s.0 x p u y changes here.1 parts.1.1 parts.0 apart)
    (λ u z f g. across_left old new t.0 x p u z f g changes here.1 parts.1.1)
    (λ u y z. rw changes.boxes refl)
    (λ z u f g. rw changes.boxes refl)
    (λ z. rw changes.boxes refl)
    (λ u. made_left old new t.0 x p u changes here.1 parts.1.1)

pub standing_fits : (net : NetworkPlan) (old new : Rows) (t : ℕ) (change : Standing → Standing) → Fits net old → t < length net.trains
    → ChangesStanding old new t change → ((x : Standing) → slice_get old.trains t ≡ Some x → IsStanding net t (change x)) → Fits net new
standing_fits net old new t change fits within changes is =
    record {
      trains = changes.count ∙ fits.trains;
      boxes = rw changes.boxes fits.boxes;
      standings = λ u y there.
          elim (cases_eq u t) [
            | inl here ↦
                let was = standing_there net old t fits within in
                let now = changes.changed was.0 was.1 in
                let same : change was.0 ≡ y = same_Some (change was.0) y (sym now ∙ (rw here at there)) in
                rw (here, ← same) (is was.0 was.1)
            | inr other ↦ fits.standings u y (sym (changes.others u other) ∙ there)
          ];
      states = rw changes.boxes fits.states;
    }

enters_standing : (net : NetworkPlan) (t : ℕ) (b : BoxId) (s2 : SegId) (x : Standing) → b.0 < length net.boxes → s2.0 < length net.segments → x.on.0 ≢ s2.0
    → x.made < steps_of net t → IsStanding net t x → IsStanding net t (enters b s2 x)
enters_standing net t b s2 x box to apart left was =
    record {
      made = was.made;
      on = was.on;
      passage = λ p is. let same = same_Some _ p is in rw (← same) (record { box = box; to = to; away = apart });
      going = λ p is. left;
    }

pub enter_fits : (net : NetworkPlan) (old new : Rows) (t : TrainId) (b : BoxId) (s s2 : SegId) → Fits net old → t.0 < length net.trains → b.0 < length net.boxes
    → s2.0 < length net.segments → ChangesStanding old new t.0 (enters b s2) → AllHold (guards net (world_of net old) (Enter t b s s2)) → Fits net new
enter_fits net old new t b s s2 fits within box to changes hold =
    standing_fits net old new t.0 (enters b s2) fits within changes
    (λ x is.
    let off = no_passage x (rw is at hold.1.0.1) in
    let from = tail_is s.0 x off (rw is at hold.1.0.0) in
    let apart = points_connect_apart net b.0 s.0 s2.0 _ hold.1.1.1.1.0 in
    enters_standing net t.0 b s2 x box to (rw from at apart) (rw is at hold.0.0) (fits.standings t.0 x is))

leaves_standing : (net : NetworkPlan) (t : ℕ) (x : Standing) (p : Passage) → x.across ≡ Some p → IsStanding net t x → IsStanding net t (leaves x)
leaves_standing net t x p across was =
    let left = was.going p across in
    let passage = was.passage p across in
    rw across
    (record {
      made = omega arith;
      on = passage.to;
      passage = λ q is. absurd (cc);
      going = λ q is. absurd (cc);
    })

pub leave_fits : (net : NetworkPlan) (old new : Rows) (t : TrainId) (s : SegId) → Fits net old → t.0 < length net.trains → ChangesStanding old new t.0 leaves
    → AllHold (guards net (world_of net old) (Leave t s)) → Fits net new
leave_fits net old new t s fits within changes hold =
    standing_fits net old new t.0 leaves fits within changes
    (λ x is.
    let parts = from_parts s.0 x (rw is at hold.0) in
    leaves_standing net t.0 x parts.1.0 parts.1.1 (fits.standings t.0 x is))

steps_few : (net : NetworkPlan) (t : ℕ) → IsNetwork net → steps_of net t ≤ MAX_STEPS
steps_few net t network =
    elim (slice_get_cases net.trains t).1 [
      | inl here ↦ rw here.2 (network.trains t here.0 here.2).short
      | inr past ↦ rw past.1 (omega arith)
    ]

pub leave_few : (net : NetworkPlan) (rows : Rows) (t : TrainId) (s : SegId) → IsNetwork net → Fits net rows → t.0 < length net.trains
    → AllHold (guards net (world_of net rows) (Leave t s)) → made_of rows t.0 < MAX_STEPS
leave_few net rows t s network fits within hold =
    let here = standing_there net rows t.0 fits within in
    let x = here.0 in
    let parts = from_parts s.0 x (rw here.1 at hold.0) in
    let left = (fits.standings t.0 x here.1).going parts.1.0 parts.1.1 in
    let few = steps_few net t.0 network in
    rw here.1 (omega arith)
