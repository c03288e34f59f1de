use Rattle.std.proofs.Common.{◌≡◌, false, ◌∙◌, ap, sym}
use Rattle.rl_steps.specs.Step.{is_ready}
use Rattle.rl_core.specs.Cores.{state_of}
use Rattle.rl_core.proofs.Watching.{watch_seen}
use Rattle.rl_core.proofs.cores.Core.watch_of.Goals as goal

pub returns-then-not-is_ready : goal.returns-then-not-is_ready
returns-then-not-is_ready c =
    let unready : is_ready ((state_of c.args.self.now).minds c.args.node.0) ≡ false =
    ap is_ready c.mind-mind.ensures.mind ∙ sym c.is_ready.ensures ∙ c.if-not-is_ready.true in
    rw c.watch_by.ensures (watch_seen c.args.self.now c.args.node.0 c.args.look c.sound.ensures.sizes unready (c.requires.looks unready))
