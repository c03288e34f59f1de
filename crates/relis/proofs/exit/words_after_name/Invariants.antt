use Rattle.std.proofs.Common.{◌≡◌, ◌++◌, map}
use Rattle.std.specs.String.{string_bytes}
use Rattle.std.specs.Vec.Iter.{into_iter_items}
use Rattle.relis.proofs.exit.words_after_name.Given as goal

abbrev pub invariant-loop-word : goal.invariant-loop-word
invariant-loop-word l =
    l.words ++ map (λ word. string_bytes word) (into_iter_items l.word-iterator)
    ≡ map (λ word. string_bytes word) (into_iter_items l.initial.word-iterator)
