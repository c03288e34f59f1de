use Rattle.std.proofs.Common.{◌≡◌, ◌≤◌, take}
use Rattle.std.specs.Vec.{vec_capacity}
use Rattle.core.specs.Mem.Slots.{slots_items, slots_len}
use Rattle.rl_rule.proofs.rails.closed_words.Given as goal

abbrev pub invariant-loop-w : goal.invariant-loop-w
invariant-loop-w l =
    record {
      words : l.words.items ≡ take l.w (slots_items l.closed.words);
      room : slots_len l.closed.words ≤ vec_capacity l.words;
    }
