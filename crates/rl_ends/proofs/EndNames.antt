-- The text of an end: what it says, and what the code looks at.
use Rattle.std.proofs.Common.{◌≡◌, ℕ, ◌+◌, ◌-◌, ◌<◌, ◌≤◌, Bool, true, false, cond, leb, eqb, ◌&&◌, List, [], ◌∷◌, ◌++◌, length, take, drop, get_or, Some, None, option_map, refl, sym, ap, ap₂, ◌∙◌, subst, arith, append_assoc, length-append, length-drop}
use Rattle.std.proofs.lemmas.Bool.{and_parts, and_from, eqb-true, leb-true, le-leb}
use Rattle.std.proofs.lemmas.List.{take-append-drop, take_at, drop_at}
use Rattle.std.proofs.lemmas.Option.{none-some, cond_some}
use Rattle.rl_base.specs.Name.{is_name}
use Rattle.rl_drafts.proofs.Lookups.{map_some}
use Rattle.rl_ends.specs.EndNames.{EndName, end_text, SaysEnd, arm_after_dot, end_parts, end_of}

abbrev with_name : List ℕ → ℕ → EndName
with_name name arm = record { name = name; arm = arm }

-- a dot and a digit that say an arm
arm_after_dot-some : (rest : List ℕ) (arm : ℕ) → arm_after_dot rest ≡ Some arm → (rest ≡ 46 ∷ (48 + arm) ∷ []) × (arm < 4)
arm_after_dot-some [] arm e = absurd (none-some arm e)
arm_after_dot-some (x ∷ []) arm e = absurd (none-some arm e)
arm_after_dot-some (x ∷ y ∷ z ∷ zs) arm e = absurd (none-some arm e)
arm_after_dot-some (dot ∷ digit ∷ []) arm e =
    let h = cond_some (eqb dot 46 && leb 48 digit && leb digit 51) (digit - 48) arm e in
    let p = and_parts (eqb dot 46 && leb 48 digit) (leb digit 51) h.0 in
    let q = and_parts (eqb dot 46) (leb 48 digit) p.0 in
    let d : dot ≡ 46 = eqb-true dot 46 q.0 in
    let low : 48 ≤ digit = leb-true 48 digit q.1 in
    let high : digit ≤ 51 = leb-true digit 51 p.1 in
    let a : digit - 48 ≡ arm = h.1 in
    let n : digit ≡ 48 + arm = omega arith in
    (ap₂ (λ (x y : ℕ). x ∷ y ∷ []) d n, omega arith)

-- a name and two bytes that say a box and an arm
record SaysParts (front back : List ℕ) (e : EndName) : Type 0 where
  own : e.name ≡ front
  rest : back ≡ 46 ∷ (48 + e.arm) ∷ []
  name : is_name front ≡ true
  arm : e.arm < 4

end_parts-some : (name rest : List ℕ) (e : EndName) → end_parts name rest ≡ Some e → SaysParts name rest e
end_parts-some name rest e h = at (is_name name) refl h
  where
    at : (t : Bool) → is_name name ≡ t → cond t (option_map (with_name name) (arm_after_dot rest)) None ≡ Some e → SaysParts name rest e
    at false t h = absurd (none-some e h)
    at true t h =
        let m = map_some (with_name name) (arm_after_dot rest) e h in
        let p = arm_after_dot-some rest m.0 m.1 in
        let same : m.0 ≡ e.arm = ap (λ (x : EndName). x.arm) m.2 in
        record {
          own = sym (ap (λ (x : EndName). x.name) m.2);
          rest = subst (λ (n : ℕ). rest ≡ 46 ∷ (48 + n) ∷ []) same p.0;
          name = t;
          arm = subst (λ (n : ℕ). n < 4) same p.1;
        }

-- a text that says a box and an arm is spelled so
pub end_of-reads : (text : List ℕ) (e : EndName) → end_of text ≡ Some e → SaysEnd text e
end_of-reads text e h =
    let n = length text - 2 in
    let p = end_parts-some (take n text) (drop n text) e h in
    record {
      spelled =
          sym (take-append-drop n text)
          ∙ (ap₂ (λ (x y : List ℕ). x ++ y) (sym p.own) p.rest ∙ sym (append_assoc e.name (46 ∷ []) ((48 + e.arm) ∷ [])));
      name = subst (λ (x : List ℕ). is_name x ≡ true) (sym p.own) p.name;
      arm = p.arm;
    }

-- a name, a dot and a digit say that box and that arm
parts-said : (name : List ℕ) (arm : ℕ) → is_name name ≡ true → arm < 4 → end_parts name (46 ∷ (48 + arm) ∷ []) ≡ Some (with_name name arm)
parts-said name arm is few =
    let low : leb 48 (48 + arm) ≡ true = le-leb 48 (48 + arm) (omega arith) in
    let high : leb (48 + arm) 51 ≡ true = le-leb (48 + arm) 51 (omega arith) in
    let back : 48 + arm - 48 ≡ arm = omega arith in
    let test = and_from (leb 48 (48 + arm)) (leb (48 + arm) 51) low high in
    ap (λ (b : Bool). cond b (option_map (with_name name) (arm_after_dot (46 ∷ (48 + arm) ∷ []))) None) is
    ∙ (ap (λ (b : Bool). option_map (with_name name) (cond b (Some (48 + arm - 48)) None)) test ∙ ap (λ (k : ℕ). Some (with_name name k)) back)

pub end_of-text : (name : List ℕ) (arm : ℕ) → is_name name ≡ true → arm < 4 → end_of (end_text name arm) ≡ Some (with_name name arm)
end_of-text name arm is few =
    let tail : List ℕ = 46 ∷ (48 + arm) ∷ [] in
    let whole : end_text name arm ≡ name ++ tail = append_assoc name (46 ∷ []) ((48 + arm) ∷ []) in
    let n : length (name ++ tail) - 2 ≡ length name = omega (arith, length-append name tail) in
    let front = ap (λ (k : ℕ). take k (name ++ tail)) n ∙ take_at name tail (length name) refl in
    let back = ap (λ (k : ℕ). drop k (name ++ tail)) n ∙ drop_at name tail (length name) refl in
    ap end_of whole ∙ (ap₂ end_parts front back ∙ parts-said name arm is few)

pub end_of-says : (text : List ℕ) (e : EndName) → SaysEnd text e → end_of text ≡ Some e
end_of-says text e s = ap end_of s.spelled ∙ end_of-text e.name e.arm s.name s.arm

-- a text of fewer than two bytes says nothing
pub end_of-short : (text : List ℕ) → length text < 2 → end_of text ≡ None
end_of-short [] l = refl
end_of-short (x ∷ []) l = refl
end_of-short (x ∷ y ∷ rest) l = absurd (omega arith)

-- a list of two
two_items : (xs : List ℕ) → length xs ≡ 2 → xs ≡ get_or xs 0 0 ∷ get_or xs 1 0 ∷ []
two_items [] e = absurd (omega arith)
two_items (x ∷ []) e = absurd (omega arith)
two_items (x ∷ y ∷ []) e = refl
two_items (x ∷ y ∷ z ∷ zs) e = absurd (omega arith)

-- any other text is looked at in its two parts
pub end_of-split : (text name rest : List ℕ) (n : ℕ) → 2 ≤ length text → n ≡ length text - 2 → name ≡ take n text → rest ≡ drop n text
    → end_of text ≡ end_parts name (get_or rest 0 0 ∷ get_or rest 1 0 ∷ [])
end_of-split text name rest n long is front back =
    let count : length rest ≡ 2 = omega (arith, ap length back, length-drop n text) in
    let a : take (length text - 2) text ≡ name = ap (λ (k : ℕ). take k text) (sym is) ∙ sym front in
    let b : drop (length text - 2) text ≡ rest = ap (λ (k : ℕ). drop k text) (sym is) ∙ sym back in
    ap₂ end_parts a (b ∙ two_items rest count)
