use Rattle.std.proofs.Common.{◌≡◌, ap, ◌∙◌, sym}
use Rattle.rl_base.specs.Layout.{word_number}
use Rattle.rl_tables.specs.Starts.{layout_of}
use Rattle.rl_track.specs.Track.{track_target}
use Rattle.rl_steps.specs.declared.mind.Mind.TheVariants.{Track}
use Rattle.rl_steps.specs.Step.{as_mind, target_of}
use Rattle.rl_steps.proofs.Options.{same_some}
use Rattle.rl_steps.proofs.ByKind.{track_target_at}
use Rattle.rl_steps.proofs.FromCalls.{track_acts}
use Rattle.rl_steps.proofs.acts.track_act.Goals as goal

pub act-requires : goal.act-requires
act-requires c =
    let mine = c.requires.mind in
    mine

pub returns-in_err-payload : goal.returns-in_err-payload
returns-in_err-payload c =
    let target : c.args.w.0 ≡ word_number (layout_of c.args.line.now) (track_target c.args.t c.args.mind.now) =
    same_some (target_of c.args.line.now c.args.node.0 (Track c.args.mind.now) c.requires.looks.scan) c.args.w.0 _ c.requires.looks.target
    (track_target_at c.args.line.now c.args.node.0 c.requires.looks.scan c.args.t c.args.mind.now c.requires.at) in
    let step = track_acts c.args.line.now c.args.node.0 c.args.w.0 c.args.payload c.args.t c.args.mind.now c.act.result c.requires.at target
    (c.act.ensures.step c.args.t) in
    c.from_residual.ensures ∙ sym (step ∙ ap (as_mind Track) c.in_err-payload.was)

pub returns : goal.returns
returns c =
    let target : c.args.w.0 ≡ word_number (layout_of c.args.line.now) (track_target c.args.t c.args.mind.now) =
    same_some (target_of c.args.line.now c.args.node.0 (Track c.args.mind.now) c.requires.looks.scan) c.args.w.0 _ c.requires.looks.target
    (track_target_at c.args.line.now c.args.node.0 c.requires.looks.scan c.args.t c.args.mind.now c.requires.at) in
    let step = track_acts c.args.line.now c.args.node.0 c.args.w.0 c.args.payload c.args.t c.args.mind.now c.act.result c.requires.at target
    (c.act.ensures.step c.args.t) in
    sym (step ∙ ap (as_mind Track) c.in_ok-payload.was)
