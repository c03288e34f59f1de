-- The moves of every run are guarded, and leave the world of its state.
use Rattle.std.proofs.Common.{◌≡◌, ◌≢◌, ℕ, Bool, true, false, ◌&&◌, List, [], ◌∷◌, ◌++◌, append-nil, slice_get, Option, Some, None, refl, sym, ap, ◌∙◌, subst}
use Rattle.std.specs.Prelude.{is_some, fold, option_to_list}
use Rattle.std.specs.Option.{option_map_or}
use Rattle.std.proofs.Math.Path.{fun_ext}
use Rattle.std.proofs.lemmas.Grind.{fold-append}
use Rattle.rl_base.specs.declared.kind.Kind.{Kind}
use Rattle.rl_base.specs.declared.kind.Kind.TheVariants.{Buffer, Joint, Point, Crossing}
use Rattle.rl_base.specs.declared.kind.Side.{Side}
use Rattle.rl_base.specs.declared.kind.Side.TheVariants.{Left}
use Rattle.rl_model.specs.declared.moves.Move.{Move}
use Rattle.rl_model.specs.declared.network.SwitchBox.{SwitchBox}
use Rattle.rl_model.specs.declared.network.NetworkPlan.{NetworkPlan}
use Rattle.rl_model.specs.Network.{kind_of, start_side, arm_of, route_segment, IsNetwork}
use Rattle.rl_model.specs.World.{World, start, starts_on, points_at}
use Rattle.rl_model.specs.Moves.{guards, AllHold, after}
use Rattle.rl_model.specs.Safety.{GuardedFrom, Guarded, IsSafeRun, world_after}
use Rattle.rl_model.proofs.Kept.{safe_run}
use Rattle.rl_protocol.specs.Line.{Line, is_held_by, IsConsistent, same_number}
use Rattle.rl_protocol.specs.State.{State}
use Rattle.rl_protocol.specs.State.{start as start_state}
use Rattle.rl_protocol.specs.Steps.{Step, StepFits, next}
use Rattle.rl_protocol.specs.StepMoves.{move_of}
use Rattle.rl_protocol.specs.Runs.{state_after, IsStepRun, moves_of}
use Rattle.rl_protocol.specs.Agreement.{Agrees}
use Rattle.rl_protocol.specs.Worlds.{IsLineOf, IsRailway, standing, world_at}
use Rattle.rl_protocol.proofs.Agreed.{agrees, known_of}
use Rattle.rl_protocol.proofs.Places.{ArePlaced, placed}
use Rattle.rl_protocol.proofs.Reserving.{IsMove}
use Rattle.rl_protocol.proofs.Moved.{MovesBy, moved_by}

-- each step moves the world of the state by its move
pub step_moves : (net : NetworkPlan) (line : Line) (tries : ℕ) (s : State) (step : Step) → IsRailway net line → Agrees line tries s → StepFits line s step
    → MovesBy net (world_at net s) (world_at net (next line s step)) (move_of line step)
step_moves net line tries s step is old fits =
    moved_by net line tries s is.network (placed net is.network) is.line_is is.consistent old step fits (known_of line tries s step old fits)

-- at the start who holds a place is who starts on its segment
start_holds : (net : NetworkPlan) (line : Line) (t s b : ℕ) (o : Option ℕ) → ArePlaced net → IsLineOf net line → IsConsistent line → arm_of net s b ≡ o
    → option_map_or (λ x. is_held_by t (line.first_holder b x)) o false ≡ (starts_on net t s && is_some o)
start_holds net line t s b None are of laws here = and_false (starts_on net t s)
  where
    and_false : (c : Bool) → false ≡ (c && false)
    and_false true = refl
    and_false false = refl
start_holds net line t s b (Some x) are of laws here =
    laws.first t b x ∙ of.ends t 0 b x ∙ ap (λ p. same_number p (route_segment net t 0)) (are.to_segment s b x here) ∙ and_true (starts_on net t s)
  where
    and_true : (c : Bool) → c ≡ (c && true)
    and_true true = refl
    and_true false = refl

-- a box that is no point stands at left at the start
start_stands : (net : NetworkPlan) (b : ℕ) → IsNetwork net → standing (kind_of net b) (start_side net b) ≡ points_at (start_side net b)
start_stands net b network = of (slice_get net.boxes b) (λ x h. (network.boxes b x h).side)
  where
    at_left : (kind : Kind) (side : Side) → (kind ≢ Point → side ≡ Left) → standing kind side ≡ points_at side
    at_left Point side h = refl
    at_left Buffer side h = sym (ap points_at (h (λ e. cc)))
    at_left Joint side h = sym (ap points_at (h (λ e. cc)))
    at_left Crossing side h = sym (ap points_at (h (λ e. cc)))

    of : (o : Option SwitchBox) → ((x : SwitchBox) → o ≡ Some x → x.kind ≢ Point → x.side ≡ Left)
        → standing (option_map_or (λ (x : SwitchBox). x.kind) o Buffer) (option_map_or (λ (x : SwitchBox). x.side) o Left)
        ≡ points_at (option_map_or (λ (x : SwitchBox). x.side) o Left)
    of None h = refl
    of (Some x) h = at_left x.kind x.side (h x refl)

pub start_world : (net : NetworkPlan) (line : Line) (tries : ℕ) → IsRailway net line → world_at net (start_state line tries) ≡ start net
start_world net line tries is =
    ap (λ h. record (world_at net (start_state line tries)) { holds = h })
    (fun_ext (λ t. fun_ext (λ s. fun_ext (λ b. start_holds net line t s b (arm_of net s b) (placed net is.network) is.line_is is.consistent refl))))
    ∙ ap (λ p. record (start net) { points = p })
    (fun_ext (λ b. ap (standing (kind_of net b)) (is.line_is.side b) ∙ start_stands net b is.network))

-- a guarded list of moves and one guarded move more
guarded_more : (net : NetworkPlan) (w : World) (ms : List Move) (m : Move) → GuardedFrom net w ms → AllHold (guards net (fold after w ms) m)
    → GuardedFrom net w (ms ++ m ∷ [])
guarded_more net w [] m before holds = (holds, tt)
guarded_more net w (x ∷ xs) m before holds = (before.0, guarded_more net (after w x) xs m before.1 holds)

-- the moves of a run are guarded, and leave the world of its state
pub record IsFollowed (net : NetworkPlan) (line : Line) (tries : ℕ) (steps : List Step) : Type 0 where
  pub guarded : Guarded net (moves_of line steps)
  pub world : world_at net (state_after line tries steps) ≡ world_after net (moves_of line steps)

followed_more : (net : NetworkPlan) (line : Line) (tries : ℕ) (steps : List Step) (step : Step) (o : Option Move) → IsFollowed net line tries steps
    → MovesBy net (world_at net (state_after line tries steps)) (world_at net (state_after line tries (step ∷ steps))) o
    → GuardedFrom net (start net) (moves_of line steps ++ option_to_list o)
    × (world_at net (state_after line tries (step ∷ steps)) ≡ fold after (start net) (moves_of line steps ++ option_to_list o))
followed_more net line tries steps step None before by = (
  subst (GuardedFrom net (start net)) (sym (append-nil (moves_of line steps))) before.guarded,
  by ∙ before.world
      ∙ ap (fold after (start net)) (sym (append-nil (moves_of line steps))),
)
followed_more net line tries steps step (Some m) before by = (
  guarded_more net (start net) (moves_of line steps) m before.guarded (subst (λ w. AllHold (guards net w m)) before.world by.guarded),
  by.world ∙ ap (λ w. after w m) before.world ∙ sym (fold-append after (start net) (moves_of line steps) (m ∷ [])),
)

pub followed : (net : NetworkPlan) (line : Line) (tries : ℕ) (steps : List Step) → IsRailway net line → IsStepRun line tries steps
    → IsFollowed net line tries steps
followed net line tries [] is run = record { guarded = tt; world = start_world net line tries is }
followed net line tries (step ∷ steps) is run =
    let before = followed net line tries steps is run.0 in
    let more = followed_more net line tries steps step (move_of line step) before
    (step_moves net line tries (state_after line tries steps) step is (agrees line tries steps is.consistent run.0) run.1) in
    record { guarded = more.0; world = more.1 }

-- what a step does where it has a move, and where it has none
pub step_move : (net : NetworkPlan) (line : Line) (tries : ℕ) (s : State) (step : Step) (m : Move) → IsRailway net line → Agrees line tries s
    → StepFits line s step
    → move_of line step ≡ Some m → IsMove net (world_at net s) (world_at net (next line s step)) m
step_move net line tries s step m is old fits h =
    subst (MovesBy net (world_at net s) (world_at net (next line s step))) h (step_moves net line tries s step is old fits)

pub step_stays : (net : NetworkPlan) (line : Line) (tries : ℕ) (s : State) (step : Step) → IsRailway net line → Agrees line tries s → StepFits line s step
    → move_of line step ≡ None → world_at net (next line s step) ≡ world_at net s
step_stays net line tries s step is old fits h =
    subst (MovesBy net (world_at net s) (world_at net (next line s step))) h (step_moves net line tries s step is old fits)

pub safe : (net : NetworkPlan) (line : Line) (tries : ℕ) (steps : List Step) → IsRailway net line → IsStepRun line tries steps
    → IsSafeRun net (moves_of line steps)
safe net line tries steps is run = safe_run net (moves_of line steps) is.network (followed net line tries steps is run).guarded
