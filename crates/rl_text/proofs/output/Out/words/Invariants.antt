use Rattle.std.proofs.Common.{◌≡◌, ◌++◌, take}
use Rattle.rl_text.specs.Words.{texts, spaced}
use Rattle.rl_text.proofs.output.Out.words.Given as goal

abbrev pub invariant-loop-word : goal.invariant-loop-word
invariant-loop-word l = l.self ≡ l.initial.self ++ spaced (texts (take l.word-index l.words))
