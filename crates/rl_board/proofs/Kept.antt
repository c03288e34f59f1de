-- A move keeps a board's counts those of its world.
use Rattle.std.proofs.Common.{◌≡◌, ℕ, ◌≤◌, length, is_some, refl, sym, ap, ◌∙◌, subst, arith}
use Rattle.rl_model.specs.declared.moves.Move.{Move}
use Rattle.rl_model.specs.declared.network.NetworkPlan.{NetworkPlan}
use Rattle.rl_model.specs.Moves.{after}
use Rattle.rl_model.specs.Network.{IsNetwork}
use Rattle.rl_model.specs.Safety.{IsKept}
use Rattle.rl_model.specs.World.{World, start}
use Rattle.rl_domain.specs.Rows.{Rows, world_of, Fits}
use Rattle.rl_board.specs.declared.occupancy.Board.{Board}
use Rattle.rl_board.specs.Below.{count_below, one_if}
use Rattle.rl_board.specs.Boards.{occupant, holder, has_lock, occupied_in, reserved_in, locked_in, world_on, IsBoard}
use Rattle.rl_board.specs.Changes.{CountsMove, HasRoom}
use Rattle.rl_board.proofs.Sums.{count_few, sum_few, sum_none}
use Rattle.rl_board.proofs.Counted.{IsCounted, no_lock}

pub few_occupied : (net : NetworkPlan) (w : World) → IsNetwork net → occupied_in net w ≤ 256
few_occupied net w network =
    let few = count_few (λ s. is_some (occupant net w s)) (length net.segments) in
    let segments = network.few_segments in
    omega arith

pub few_held : (net : NetworkPlan) (w : World) (s : ℕ) → IsNetwork net → count_below (λ b. is_some (holder net w s b)) (length net.boxes) ≤ 128
few_held net w s network =
    let few = count_few (λ b. is_some (holder net w s b)) (length net.boxes) in
    let boxes = network.few_boxes in
    omega arith

pub few_reserved : (net : NetworkPlan) (w : World) → IsNetwork net → reserved_in net w ≤ 32768
few_reserved net w network =
    let few = sum_few (λ s. count_below (λ b. is_some (holder net w s b)) (length net.boxes)) (length net.segments) 128 (λ s. few_held net w s network) in
    let segments = network.few_segments in
    omega arith

few_locked : (net : NetworkPlan) (w : World) → IsNetwork net → locked_in net w ≤ 128
few_locked net w network =
    let few = count_few (has_lock net w) (length net.boxes) in
    let boxes = network.few_boxes in
    omega arith

pub has_room : (net : NetworkPlan) (m : Move) (old : Board) (rows : Rows) → IsNetwork net → IsBoard net old
    → IsCounted net m (world_on net old) (after (world_on net old) m) → HasRoom m (record old { world = rows })
has_room net m old rows network board counted =
    let o = board.occupied in
    let r = board.reserved in
    let l = board.locked in
    let co = counted.occupied in
    let cr = counted.reserved in
    let cl = counted.locked in
    let fo = few_occupied net (world_on net old) network in
    let fr = few_reserved net (world_on net old) network in
    let fl = few_locked net (world_on net old) network in
    record {
      occupied = omega arith;
      reserved = omega arith;
      locked = omega arith;
      few_occupied = omega arith;
      few_reserved = omega arith;
      few_locked = omega arith;
    }

pub still_board : (net : NetworkPlan) (m : Move) (old new : Board) (rows : Rows) → IsBoard net old → Fits net rows → IsKept net (world_of net rows)
    → world_of net rows ≡ after (world_on net old) m → IsCounted net m (world_on net old) (after (world_on net old) m) → new.world ≡ rows
    → CountsMove m (record old { world = rows }) new → IsBoard net new
still_board net m old new rows board fits kept changed counted world moved =
    let o = board.occupied in
    let r = board.reserved in
    let l = board.locked in
    let co = counted.occupied in
    let cr = counted.reserved in
    let cl = counted.locked in
    let mo = moved.occupied in
    let mr = moved.reserved in
    let ml = moved.locked in
    let is : world_on net new ≡ after (world_on net old) m = ap (world_of net) world ∙ changed in
    let so = ap (occupied_in net) is in
    let sr = ap (reserved_in net) is in
    let sl = ap (locked_in net) is in
    record {
      fits = subst (Fits net) (sym world) fits;
      kept = subst (λ (x : Rows). IsKept net (world_of net x)) (sym world) kept;
      occupied = omega arith;
      reserved = omega arith;
      locked = omega arith;
    }

-- at the start no box has a lock
pub none_locked : (net : NetworkPlan) (w : World) → w ≡ start net → 0 ≡ locked_in net w
none_locked net w is =
    sym (ap (locked_in net) is ∙ sum_none (λ b. one_if (has_lock net (start net) b)) (length net.boxes)
    (λ b. ap one_if (no_lock net (start net) b (λ t from to. refl))))
