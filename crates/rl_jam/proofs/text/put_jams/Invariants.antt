use Rattle.std.proofs.Common.{◌≡◌, ◌+◌, ◌++◌, drop}
use Rattle.rl_jam.specs.JamText.{jams_lines}
use Rattle.rl_jam.proofs.text.put_jams.Given as goal

-- with the lines of the jams that are left the text is whole
abbrev pub invariant-loop-i : goal.invariant-loop-i
invariant-loop-i l = l.out ++ jams_lines l.net (l.i + 1) (drop l.i l.jams) ≡ l.initial.out ++ jams_lines l.net 1 l.jams
