use Rattle.std.proofs.Common.{◌≡◌, ℕ, ◌+◌, ◌++◌, ◌∷◌, length, drop, get_or, codes, decimal, refl, sym, ap, ◌∙◌, subst, append-nil, arith}
use Rattle.std.proofs.lemmas.Option.{slice_get-get_or}
use Rattle.rl_model.specs.declared.moves.Move.TheVariants.{Reserve}
use Rattle.rl_model.specs.Moves.{after}
use Rattle.rl_model.specs.Safety.{GuardedFrom}
use Rattle.rl_model.specs.World.{World}
use Rattle.rl_board.specs.Boards.{occupied_in, world_on}
use Rattle.rl_board.specs.BoardText.{counts_text, after_line, world_at, IsPeak}
use Rattle.rl_board.proofs.Lines.{world_next, guards_next, text_next}
use Rattle.rl_board.proofs.Peaks.{peak_start}
use Rattle.rl_board.proofs.moves.put_moves.Goals as goal

pub loop-k-init : goal.loop-k-init
loop-k-init c =
    let net = c.args.net.now in
    let moves = c.args.moves.now in
    record {
      board = c.requires.board;
      world = c.requires.start;
      guarded = subst (λ (w : World). GuardedFrom net w moves) (sym c.requires.start) c.requires.guarded;
      text = sym (append-nil c.args.out.now);
      peak = peak_start (λ k. occupied_in net (world_at net moves k)) c.occupied.result
          (sym (c.occupied.ensures net c.requires.board ∙ ap (occupied_in net) c.requires.start));
    }

pub step-requires-clause-of : goal.step-requires-clause-of
step-requires-clause-of c =
    let d = Reserve (record { 0 = 0 }) (record { 0 = 0 }) (record { 0 = 0 }) in
    c.requires.of c.loop-k.k (get_or c.args.moves.now c.loop-k.k d) (slice_get-get_or c.args.moves.now c.loop-k.k d (omega arith))

pub loop-k-preserved : goal.loop-k-preserved
loop-k-preserved c =
    let net = c.args.net.now in
    let moves = c.args.moves.now in
    let k = c.loop-k.k in
    let d = Reserve (record { 0 = 0 }) (record { 0 = 0 }) (record { 0 = 0 }) in
    let m = get_or moves k d in
    let at = slice_get-get_or moves k d (omega arith) in
    let before = c.loop-k.invariant in
    let changed = c.step.ensures.changed in
    let world : world_on net c.step.new.board ≡ world_at net moves (k + 1) =
    changed ∙ ap (λ (w : World). after w m) before.world ∙ sym (world_next net moves k m at) in
    record {
      board = c.step.ensures.board;
      world = world;
      guarded = subst (λ (w : World). GuardedFrom net w (drop (k + 1) moves)) (sym changed)
          (guards_next net (world_on net c.loop-k.board) moves k m at before.guarded).1;
      text = text_next (after_line net moves) k c.args.out.now c.loop-k.out c.put_after.new.out (codes "after") (32 ∷ decimal (k + 3))
          (counts_text net (world_on net c.step.new.board)) c.in_ok-put_after.ensures
          (ap (λ (w : World). codes "after" ++ 32 ∷ decimal (k + 3) ++ counts_text net w) world) before.text;
      peak = c.with-peak.ensures (λ j. occupied_in net (world_at net moves j)) k refl
          (sym (c.occupied-in-loop-k.ensures net c.step.ensures.board ∙ ap (occupied_in net) world)) before.peak;
    }

pub returns-clause-peak : goal.returns-clause-peak
returns-clause-peak c =
    let net = c.args.net.now in
    let moves = c.args.moves.now in
    let all : c.loop-k.k ≡ length moves = omega arith in
    subst (λ (n : ℕ). IsPeak (λ k. occupied_in net (world_at net moves k)) n c.loop-k.peak.occupied c.loop-k.peak.place) all c.loop-k.invariant.peak
