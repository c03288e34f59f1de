-- What the rails keep of parts that were taken in, one after another, from none on.
use Rattle.std.proofs.Common.{◌≡◌, ◌≢◌, ℕ, zero, suc, ◌==◌, Bool, true, false, cond, List}
use Rattle.std.proofs.Common.{[], ◌∷◌, ◌++◌, map, reverse, slice_get, Some, option_map, refl, ap, ◌∙◌, subst}
use Rattle.std.proofs.lemmas.Bool.{ne_eqb}
use Rattle.std.proofs.lemmas.Grind.{reverse_onto}
use Rattle.std.proofs.lemmas.Option.{slice_get-map}
use Rattle.rl_record.specs.declared.event.Event.{Event}
use Rattle.rl_tables.specs.declared.table.Tables.{Tables}
use Rattle.rl_rule.specs.declared.views.Kept.{Kept}
use Rattle.rl_rule.specs.Closing.{kept_history}
use Rattle.rl_rule.specs.Ruled.{IsKept, AreKept}
use Rattle.rl_rule.specs.Seats.{walk_of}
use Rattle.rl_rule.specs.Views.{kept_of}
use Rattle.rl_nodes.specs.declared.parts.Part.{Part}

abbrev pub kept_part : Part → Kept
kept_part part = kept_of (walk_of part.seat)

-- the last one first
abbrev pub kept_parts : List Part → List Kept
kept_parts parts = reverse (map (λ part. kept_of (walk_of part.seat)) parts)

one_more : (k : Kept) (ks : List Kept) → reverse (k ∷ ks) ≡ reverse ks ++ k ∷ []
one_more k ks = reverse_onto ks k []

-- what is so of all that is kept is so of each
front : (tables : Tables) (tries : ℕ) (log : List Event) (xs ys : List Kept) → AreKept tables tries log (xs ++ ys) → AreKept tables tries log xs
front tables tries log [] ys are = tt
front tables tries log (x ∷ xs) ys are = (are.0, front tables tries log xs ys are.1)

back : (tables : Tables) (tries : ℕ) (log : List Event) (xs ys : List Kept) → AreKept tables tries log (xs ++ ys) → AreKept tables tries log ys
back tables tries log [] ys are = are
back tables tries log (x ∷ xs) ys are = back tables tries log xs ys are.1

each_kept : (tables : Tables) (tries : ℕ) (log : List Event) (ks : List Kept) (n : ℕ) (k : Kept)
    → AreKept tables tries log (reverse ks) → slice_get ks n ≡ Some k → IsKept tables tries log k
each_kept tables tries log [] n k are at = absurd (cc)
each_kept tables tries log (x ∷ xs) zero k are at =
    let all : AreKept tables tries log (reverse xs ++ x ∷ []) = subst (λ (l : List Kept). AreKept tables tries log l) (one_more x xs) are in
    let same : x ≡ k = cc in
    subst (λ (y : Kept). IsKept tables tries log y) same (back tables tries log (reverse xs) (x ∷ []) all).0
each_kept tables tries log (x ∷ xs) (suc n) k are at =
    let all : AreKept tables tries log (reverse xs ++ x ∷ []) = subst (λ (l : List Kept). AreKept tables tries log l) (one_more x xs) are in
    each_kept tables tries log xs n k (front tables tries log (reverse xs) (x ∷ []) all) at

pub kept_at : (tables : Tables) (tries : ℕ) (log : List Event) (parts : List Part) (n : ℕ) (part : Part)
    → AreKept tables tries log (kept_parts parts) → slice_get parts n ≡ Some part → IsKept tables tries log (kept_part part)
kept_at tables tries log parts n part are at =
    each_kept tables tries log (map kept_part parts) n (kept_part part) are (slice_get-map kept_part parts n ∙ ap (option_map kept_part) at)

-- no history is kept of a node that isn't among them
neither : (n : ℕ) (xs ys : List Kept) → kept_history xs n ≡ [] → kept_history ys n ≡ [] → kept_history (xs ++ ys) n ≡ []
neither n [] ys none later = later
neither n (x ∷ xs) ys none later = by (x.node.0 == n) (λ e. neither n xs ys e later) none
  where
    by : (b : Bool) → (kept_history xs n ≡ [] → kept_history (xs ++ ys) n ≡ []) → cond b x.history (kept_history xs n) ≡ []
        → cond b x.history (kept_history (xs ++ ys) n) ≡ []
    by true rest e = e
    by false rest e = rest e

pub none_kept : (n : ℕ) (ks : List Kept) → ((i : ℕ) (k : Kept) → slice_get ks i ≡ Some k → k.node.0 ≢ n) → kept_history (reverse ks) n ≡ []
none_kept n [] others = refl
none_kept n (x ∷ xs) others =
    let rest : kept_history (reverse xs) n ≡ [] = none_kept n xs (λ i k at. others (suc i) k at) in
    let here : kept_history (x ∷ []) n ≡ [] = rw (ne_eqb x.node.0 n (others 0 x refl)) refl in
    ap (λ (l : List Kept). kept_history l n) (one_more x xs) ∙ neither n (reverse xs) (x ∷ []) rest here
