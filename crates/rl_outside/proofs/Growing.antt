-- What a sink is known to hold, as a text is put into it piece by piece.
use Rattle.std.proofs.Common.{◌≡◌, ℕ, ◌+◌, ◌-◌, ◌≤◌, List, [], ◌++◌, length, take, drop, Option, Some, None, sym, ap, arith, append_assoc, ◌∙◌}
use Rattle.std.proofs.lemmas.List.{append-nil, take_all, length-drop}
use Rattle.std.proofs.Math.Seq.{take-add}
use Rattle.std.specs.Io.KnownBytes.{Appends}

-- nothing is appended where nothing changes
pub Appends-nil : (known : Option (List ℕ)) → Appends known known []
Appends-nil None = tt
Appends-nil (Some bytes) = sym (append-nil bytes)

-- one piece after another
pub Appends-append : (before between now : Option (List ℕ)) (first second : List ℕ) →
    Appends before between first → Appends between now second → Appends before now (first ++ second)
Appends-append None between now first second a b = tt
Appends-append (Some xs) None now first second a b = absurd a
Appends-append (Some xs) (Some ys) None first second a b = absurd b
Appends-append (Some xs) (Some ys) (Some zs) first second a b =
    b ∙ ap (λ (l : List ℕ). l ++ second) a ∙ append_assoc xs first second

-- a slice from n on is the rest of the text
pub rest-drop : (n : ℕ) (text : List ℕ) → take (length text - n) (drop n text) ≡ drop n text
rest-drop n text = take_all _ _ (omega (arith, length-drop n text))

-- the first n bytes of a text, and then m bytes of the rest
pub Appends-take-add : (before between now : Option (List ℕ)) (n m : ℕ) (text : List ℕ) →
    Appends before between (take n text) → Appends between now (take m (take (length text - n) (drop n text))) →
    Appends before now (take (n + m) text)
Appends-take-add before between now n m text a b =
    rw (take-add n m text) (Appends-append before between now (take n text) (take m (drop n text)) a (rw (rest-drop n text) at b))

-- what has been put so far, of the text, since the sink told `before` and counted `faults`
pub record HasPut (told_before told_now : Option (List ℕ)) (faults_before faults_now done : ℕ) (text : List ℕ) : Type 0 where
  pub within : done ≤ length text
  pub so_far : Appends told_before told_now (take done text)
  pub kept : faults_now ≡ faults_before
