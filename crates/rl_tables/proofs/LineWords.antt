-- A line is its words, each but the first after a space, and LF.
use Rattle.std.proofs.Common.{◌≡◌, ℕ, List, [], ◌∷◌, ◌++◌, codes, append_assoc}
use Rattle.rl_model.specs.ReportText.{line_of}

-- nine pieces and an end, put one behind another
pieces : (text p0 p1 p2 p3 p4 p5 p6 p7 p8 end : List ℕ)
    → text ++ p0 ++ p1 ++ p2 ++ p3 ++ p4 ++ p5 ++ p6 ++ p7 ++ p8 ++ end ≡ text ++ (p0 ++ (p1 ++ (p2 ++ (p3 ++ (p4 ++ (p5 ++ (p6 ++ (p7 ++ p8))))))) ++ end)
pieces text p0 p1 p2 p3 p4 p5 p6 p7 p8 end = simp append_assoc

-- what is put word by word behind a text is the text and the line of the step
pub step_behind : (text k b x y c c_arm a a_arm : List ℕ)
    → text ++ codes "step" ++ 32 ∷ k ++ 32 ∷ b ++ 32 ∷ x ++ 32 ∷ y ++ 32 ∷ c ++ 32 ∷ c_arm ++ 32 ∷ a ++ 32 ∷ a_arm ++ 10 ∷ [] ≡ text
    ++ line_of (codes "step" ∷ k ∷ b ∷ x ∷ y ∷ c ∷ c_arm ∷ a ∷ a_arm ∷ [])
step_behind text k b x y c c_arm a a_arm =
    pieces text (codes "step") (32 ∷ k) (32 ∷ b) (32 ∷ x) (32 ∷ y) (32 ∷ c) (32 ∷ c_arm) (32 ∷ a) (32 ∷ a_arm) (10 ∷ [])
