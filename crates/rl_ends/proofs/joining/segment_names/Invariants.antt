use Rattle.std.proofs.Common.{◌≡◌, map, take}
use Rattle.rl_ends.specs.declared.ends_draft.EndsSegment.{EndsSegment}
use Rattle.rl_ends.proofs.joining.segment_names.Given as goal

abbrev pub invariant-loop-segment : goal.invariant-loop-segment
invariant-loop-segment l = l.names ≡ map (λ (g : EndsSegment). g.name) (take l.segment-index l.draft.segments)
