use Rattle.std.proofs.Common.{◌∙◌, refl, arith, length-drop}
use Rattle.rl_outside.proofs.Growing.{Appends-take-add, Appends-nil}
use Rattle.rl_outside.proofs.sink.put_all.Goals as goal

pub loop-done-init : goal.loop-done-init
loop-done-init g c = (
  record {
    within = omega arith;
    so_far = Appends-nil (g.K.Sink.written c.args.out.now);
    kept = refl;
  },
  λ none. refl,
)

pub loop-done-preserved : goal.loop-done-preserved
loop-done-preserved g c =
    let in_rest = c.in_ok-done.ensures.within in
    let took = c.in_ok-done.ensures.at_least_one in (
      record {
        within = omega (arith, in_rest, length-drop c.loop-done.done c.args.text.now);
        so_far = Appends-take-add _ _ _ _ _ _ c.loop-done.invariant.0.so_far c.in_ok-done.ensures.bytes;
        kept = c.in_ok-done.ensures.kept ∙ c.loop-done.invariant.0.kept;
      },
      λ none. absurd (omega (arith, took)),
    )
