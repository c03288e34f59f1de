-- The names of the ring are names.
use Rattle.std.proofs.Common.{◌≡◌, ℕ, zero, suc, ◌<◌, ◌≤◌, Bool, true, false, cond, eqb, ◌%◌, [], ◌∷◌, refl, arith}
use Rattle.std.specs.Fmt.{digits}
use Rattle.std.specs.List.{list_all}
use Rattle.rl_base.specs.Draft.{HasNames}
use Rattle.rl_base.specs.Name.{is_name}
use Rattle.rl_base.specs.declared.draft.DraftBox.{DraftBox}
use Rattle.rl_base.specs.declared.draft.DraftTrain.{DraftTrain}
use Rattle.rl_make.specs.Ring.{upper, lower, station_before, station_after, segments_of, boxes_of, platform, legs, train_of, ring}
use Rattle.rl_make.proofs.Each.{below_passes, all-each}
use Rattle.rl_make.proofs.EndsOf.{before_within, after_within}

-- a letter with a number below 32, tried one by one; of the letter the test asks only that it is one
numbered : (i : ℕ) → i < 32 → is_name (upper i) ≡ true
unfolding digits
numbered i l = below_passes (λ k. is_name (upper k)) 32 i refl l

platform_name : (i h : ℕ) → h < 32 → is_name (platform i h) ≡ true
platform_name i h l = at (eqb (i % 2) 0)
  where
    at : (b : Bool) → is_name (cond b (upper h) (lower h)) ≡ true
    at true = numbered h l
    at false = numbered h l

legs_named : (n i k h : ℕ) → n ≤ 32 → h < n → list_all is_name (legs n i k h) ≡ true
unfolding legs
legs_named n i zero h few l = refl
legs_named n i (suc k) h few l =
    let m = after_within n h l in
    let here : h < 32 = omega arith in
    let there : station_after n h < 32 = omega (arith, m, few) in
    rw (numbered h here, numbered (station_after n h) there, platform_name i (station_after n h) there) (legs_named n i k (station_after n h) few m)

pub ring_named : (n : ℕ) → n ≤ 32 → HasNames (ring n)
ring_named n few = record {
  segments = all-each is_name segments_of n (λ i l. let m : i < 32 = omega arith in rw (numbered i m));
  boxes = all-each (λ (b : DraftBox). is_name b.name) (boxes_of n) n (λ i l. let m : i < 32 = omega arith in rw (numbered i m));
  arms = all-each (λ (b : DraftBox). list_all is_name b.arms) (boxes_of n) n (λ i l.
      let m : i < 32 = omega arith in
      let earlier : station_before n i < 32 = omega (arith, before_within n i l, few) in
      rw (numbered (station_before n i) earlier, numbered i m));
  trains = all-each (λ (t : DraftTrain). is_name t.name) (λ i. train_of n i ∷ []) n (λ i l. let m : i < 32 = omega arith in rw (numbered i m));
  routes = all-each (λ (t : DraftTrain). list_all is_name t.route) (λ i. train_of n i ∷ []) n
      (λ i l. let m : i < 32 = omega arith in rw (platform_name i i m, legs_named n i 20 i few l));
}
