-- Letters that are compared field by field are one.
use Rattle.std.proofs.Common.{◌≡◌, ℕ, true, refl, ap, arith}
use Rattle.std.proofs.lemmas.Bool.{and_parts, and_from, eqb-true, eq-eqb}
use Rattle.rl_base.specs.declared.ids.Arm.{Arm}
use Rattle.rl_base.specs.declared.ids.BoxId.{BoxId}
use Rattle.rl_base.specs.declared.job.Verb.{Verb}
use Rattle.rl_base.specs.declared.job.Verb.TheVariants.{Reserve, Release, Lock, Unlock}
use Rattle.rl_words.specs.declared.mail.Letter.{Letter}
use Rattle.rl_words.specs.Mail.{verb_code, same_letter}

same_verb : (a b : Verb) → verb_code a ≡ verb_code b → a ≡ b
same_verb Reserve Reserve e = refl
same_verb Reserve Release e = absurd (omega arith)
same_verb Reserve Lock e = absurd (omega arith)
same_verb Reserve Unlock e = absurd (omega arith)
same_verb Release Reserve e = absurd (omega arith)
same_verb Release Release e = refl
same_verb Release Lock e = absurd (omega arith)
same_verb Release Unlock e = absurd (omega arith)
same_verb Lock Reserve e = absurd (omega arith)
same_verb Lock Release e = absurd (omega arith)
same_verb Lock Lock e = refl
same_verb Lock Unlock e = absurd (omega arith)
same_verb Unlock Reserve e = absurd (omega arith)
same_verb Unlock Release e = absurd (omega arith)
same_verb Unlock Lock e = absurd (omega arith)
same_verb Unlock Unlock e = refl

same_box : (b c : BoxId) → b.0 ≡ c.0 → b ≡ c
same_box b c e = let id : ℕ → BoxId = λ n. record { 0 = n } in ap id e

same_arm : (x y : Arm) → x.0 ≡ y.0 → x ≡ y
same_arm x y e = let id : ℕ → Arm = λ n. record { 0 = n } in ap id e

letter_parts : (b c : BoxId) (v w : Verb) (x x' y y' : Arm) → b ≡ c → v ≡ w → x ≡ x' → y ≡ y'
    → (let made : Letter = record { to = b; verb = v; x = x; y = y } in made) ≡ record { to = c; verb = w; x = x'; y = y' }
letter_parts b c v w x x' y y' eb ev ex ey = cc

pub same_letter-true : (a b : Letter) → same_letter a b ≡ true → a ≡ b
same_letter-true a b h =
    let h0 = and_parts _ _ h in
    let h1 = and_parts _ _ h0.1 in
    let h2 = and_parts _ _ h1.1 in
    letter_parts a.to b.to a.verb b.verb a.x b.x a.y b.y
    (same_box a.to b.to (eqb-true _ _ h0.0))
    (same_verb a.verb b.verb (eqb-true _ _ h1.0))
    (same_arm a.x b.x (eqb-true _ _ h2.0))
    (same_arm a.y b.y (eqb-true _ _ h2.1))

pub same_letter_itself : (a : Letter) → same_letter a a ≡ true
same_letter_itself a = and_from _ _ (eq-eqb a.to.0 a.to.0 refl)
    (and_from _ _ (eq-eqb (verb_code a.verb) (verb_code a.verb) refl) (and_from _ _ (eq-eqb a.x.0 a.x.0 refl) (eq-eqb a.y.0 a.y.0 refl)))
