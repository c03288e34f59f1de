-- The moves Reserve and Release: their guards hold, and their changes are those of the reservation words.
use Rattle.std.proofs.Common.{◌≡◌, ℕ, ◌==◌, true, false, cond, not, ◌&&◌, ◌||◌, Option, Some, None, refl, ap, ◌∙◌, arith}
use Rattle.std.specs.Prelude.{is_some}
use Rattle.std.specs.Option.{option_map_or}
use Rattle.std.proofs.Math.Path.{fun_ext}
use Rattle.std.proofs.lemmas.Bool.{eq-eqb}
use Rattle.std.proofs.lemmas.Bool.Decides.{nat_tests}
use Rattle.rl_base.specs.declared.ids.TrainId.{TrainId}
use Rattle.rl_model.specs.declared.network.NetworkPlan.{NetworkPlan}
use Rattle.rl_model.specs.Network.{arm_of, segment_at}
use Rattle.rl_model.specs.World.{World}
use Rattle.rl_model.specs.Moves.{guards, AllHold, after}
use Rattle.rl_model.specs.declared.moves.Move.{Move}
use Rattle.rl_model.specs.declared.moves.Move.TheVariants as moves
use Rattle.rl_words.specs.declared.mail.Letter.{Letter}
use Rattle.rl_protocol.specs.Line.{Line, is_held_by}
use Rattle.rl_protocol.specs.State.{State, put_at}
use Rattle.rl_protocol.specs.Minds.{train, box}
use Rattle.rl_protocol.specs.Steps.{grant, release, next}
use Rattle.rl_protocol.specs.StepMoves.{seg_at}
use Rattle.rl_protocol.specs.Worlds.{IsLineOf, world_at}
use Rattle.rl_protocol.proofs.Places.{ArePlaced}

module _ (arm segment : ℕ → ℕ → Option ℕ) (to_segment : (s b x : ℕ) → arm s b ≡ Some x → segment b x ≡ Some s) (resv : ℕ → ℕ → Option TrainId) (t s b x : ℕ)
    (there : segment b x ≡ Some s) (here : arm s b ≡ Some x) where
  reserve_one : resv b x ≡ None → (u r c : ℕ) (o : Option ℕ) → arm r c ≡ o
      → option_map_or (λ i. is_held_by u (put_at resv b x (Some (train t)) c i)) o false
      ≡ (option_map_or (λ i. is_held_by u (resv c i)) o false || (u == t && r == s && c == b))
  reserve_one free u r c None is = grind (arith, nat_tests)
  reserve_one free u r c (Some i) is = grind (arith, nat_tests, to_segment r c i is)

  release_one : resv b x ≡ Some (train t) → (u r c : ℕ) (o : Option ℕ) → arm r c ≡ o
      → option_map_or (λ i. is_held_by u (put_at resv b x None c i)) o false
      ≡ (option_map_or (λ i. is_held_by u (resv c i)) o false && not (u == t && r == s && c == b))
  release_one held u r c None is = grind (arith, nat_tests)
  release_one held u r c (Some i) is = grind (arith, nat_tests, to_segment r c i is)

-- the guards of a move hold, and it makes the one world the other
pub record IsMove (net : NetworkPlan) (w v : World) (m : Move) : Type 0 where
  pub guarded : AllHold (guards net w m)
  pub world : v ≡ after w m

-- arm x of box b is there, with the segment that the line says
pub there_at : (net : NetworkPlan) (line : Line) (b x : ℕ) → IsLineOf net line → line.has_arm b x ≡ true → segment_at net b x ≡ Some (line.segment b x).0
there_at net line b x of h = of.segment b x ∙ ap (λ c. cond c (Some (line.segment b x).0) None) h

-- what a train holds there is what the word of the box says
pub held_at : (net : NetworkPlan) (s : State) (t segment b x : ℕ) → arm_of net segment b ≡ Some x
    → (world_at net s).holds t segment b ≡ is_held_by t (s.resv b x)
held_at net s t segment b x here = ap (λ o. option_map_or (λ i. is_held_by t (s.resv b i)) o false) here

module _ (net : NetworkPlan) (line : Line) (s : State) (b t : ℕ) (l : Letter) (are : ArePlaced net) (of : IsLineOf net line)
    (there : line.has_arm b l.x.0 ≡ true) where
  segment_there : segment_at net b l.x.0 ≡ Some (seg_at line b l.x).0
  segment_there = there_at net line b l.x.0 of there

  arm_there : arm_of net (seg_at line b l.x).0 b ≡ Some l.x.0
  arm_there = are.to_arm (seg_at line b l.x).0 b l.x.0 segment_there

  pub grant_moves : s.resv b l.x.0 ≡ None
      → IsMove net (world_at net s) (world_at net (next line s (grant b t l))) (moves.Reserve (train t) (seg_at line b l.x) (box b))
  grant_moves free =
      record {
        guarded = (ap is_some arm_there, (λ u. held_at net s u (seg_at line b l.x).0 b l.x.0 arm_there ∙ ap (is_held_by u) free, tt));
        world = ap (λ h. record (world_at net s) { holds = h })
            (fun_ext (λ u. fun_ext (λ r. fun_ext
            (λ c. reserve_one (arm_of net) (segment_at net) are.to_segment s.resv t (seg_at line b l.x).0 b l.x.0 segment_there arm_there free u r c
            (arm_of net r c) refl))));
      }

  pub release_moves : s.resv b l.x.0 ≡ Some (train t) → (world_at net s).occupies t (seg_at line b l.x).0 ≡ false
      → IsMove net (world_at net s) (world_at net (next line s (release b t l))) (moves.Release (train t) (seg_at line b l.x) (box b))
  release_moves held off =
      record {
        guarded = (ap is_some arm_there, (held_at net s t (seg_at line b l.x).0 b l.x.0 arm_there ∙ ap (is_held_by t) held ∙ eq-eqb t t refl, (off, tt)));
        world = ap (λ h. record (world_at net s) { holds = h })
            (fun_ext (λ u. fun_ext (λ r. fun_ext
            (λ c. release_one (arm_of net) (segment_at net) are.to_segment s.resv t (seg_at line b l.x).0 b l.x.0 segment_there arm_there held u r c
            (arm_of net r c) refl))));
      }
