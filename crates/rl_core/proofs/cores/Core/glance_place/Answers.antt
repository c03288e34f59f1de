use Rattle.std.proofs.Common.{◌≡◌, Some, None, ap, ◌∙◌, sym, slice_get}
use Rattle.rl_base.specs.Layout.{word_number}
use Rattle.rl_tables.specs.Starts.{layout_of}
use Rattle.rl_box.specs.Mind.{start_box}
use Rattle.rl_box.specs.Steps.{box_target}
use Rattle.rl_core.specs.Cores.{state_of}
use Rattle.rl_core.specs.Speed.{waits_of}
use Rattle.rl_core.proofs.Looking.{box_looked, box_sound, box_numbered}
use Rattle.rl_core.proofs.Watching.{ready_box, no_step, glanced}
use Rattle.rl_core.proofs.cores.Core.glance_place.Goals as goal

pub returns : goal.returns
returns c =
    let lay : c.layout.result ≡ layout_of c.args.self.now.line = c.layout.ensures.layout ∙ ap layout_of c.line.ensures in
    let there : slice_get c.args.self.now.line.boxes c.args.b.0 ≡ Some c.box_table.result.now = rw c.line-2.ensures at c.box_table.ensures.there in
    let box = ready_box (state_of c.args.self.now) c.args.node.0 c.requires.ready in
    let sound = box_sound c.args.self.now.line (state_of c.args.self.now) c.args.self.now.events c.args.node.0 c.args.b c.box_table.result.now
    box.0 c.sound.ensures.sound c.requires.at box.1.mind there in
    let at_start : c.target-word.result.0 ≡ word_number (layout_of c.args.self.now.line)
    (box_target (layout_of c.args.self.now.line) c.box_table.result.now start_box c.args.scan) = rw (lay, c.start.ensures.mind) at
    c.target-word.ensures.number in
    let target : c.target-word.result.0 ≡ word_number (layout_of c.args.self.now.line)
    (box_target (layout_of c.args.self.now.line) c.box_table.result.now box.0 c.args.scan) = rw box.1.ready at_start in
    let waits = c.ready_box.ensures.waiting ∙ c.requires.waits ∙ ap waits_of box.1.mind in
    let number = box_numbered c.args.self.now.line c.args.b c.box_table.result.now c.sound.ensures.line there in
    let looks = box_looked c.args.self.now.line (state_of c.args.self.now) c.args.node.0 c.args.scan c.target-word.result.0 c.word_at-was.result
    c.payload_of.result c.args.b c.box_table.result.now box.0 None c.sound.ensures.line c.requires.at there sound box.1.mind
    target c.word_at-was.ensures c.payload_of.ensures
    (λ kind has same. sym (no_step c.box_glances.ensures c.box_table.result.now box.0 c.ready_box.result c.args.b kind c.payload_of.result number
    box.1.ready c.ready_box.ensures.work waits (sym c.may_step.ensures.glance ∙ c.if-may_step.false))) in
    glanced c.args.self.now.line (state_of c.args.self.now) c.args.node.0 c.args.scan c.word_at-was.result c.args.next c.target-word.result looks
    c.requires.ready c.requires.next
