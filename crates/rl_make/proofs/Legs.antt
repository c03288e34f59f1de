-- The legs of a route, one after another.
use Rattle.std.proofs.Common.{◌≡◌, ℕ, suc, ◌+◌, ◌-◌, ◌<◌, ◌≤◌, List, [], ◌++◌, refl, sym, ◌∙◌, append_assoc, append-nil, arith}
use Rattle.rl_make.specs.Ring.{station_after, leg, legs}

-- the next leg of those that are left, and none left
legs-suc : (n i k h : ℕ) → legs n i (suc k) h ≡ leg n i h ++ legs n i k (station_after n h)
unfolding legs
legs-suc n i k h = refl

legs-more : (n i total k h : ℕ) → k < total → legs n i (total - k) h ≡ leg n i h ++ legs n i (total - (k + 1)) (station_after n h)
legs-more n i total k h l =
    let e : total - k ≡ suc (total - (k + 1)) = omega arith in
    rw e (legs-suc n i (total - (k + 1)) h)

legs-none : (n i total k h : ℕ) → total ≤ k → legs n i (total - k) h ≡ []
unfolding legs
legs-none n i total k h l = let e : total - k ≡ 0 = omega arith in rw e

-- a leg more of the route
pub leg_step : (n i k h next : ℕ) (route more all : List (List ℕ)) → k < 20 → next ≡ station_after n h
    → more ≡ route ++ leg n i h → route ++ legs n i (20 - k) h ≡ all → more ++ legs n i (20 - (k + 1)) next ≡ all
leg_step n i k h next route more all l onward grown whole =
    rw (onward, grown, append_assoc, ← legs-more n i 20 k h l) whole

-- the route after all legs
pub leg_last : (n i k h : ℕ) (route all : List (List ℕ)) → 20 ≤ k → route ++ legs n i (20 - k) h ≡ all → route ≡ all
leg_last n i k h route all l whole = sym (append-nil route) ∙ rw (← legs-none n i 20 k h l) whole
