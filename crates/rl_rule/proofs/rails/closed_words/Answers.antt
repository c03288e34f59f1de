use Rattle.std.proofs.Common.{ap, ◌∙◌, ◌++◌, ◌∷◌, [], List, ℕ, sym, arith}
use Rattle.core.specs.Mem.Slots.{slots_items}
use Rattle.rl_rule.proofs.Lists.{take_next}
use Rattle.rl_rule.proofs.rails.closed_words.Goals as goal

pub loop-w-preserved : goal.loop-w-preserved
loop-w-preserved c =
    record {
      words =
          c.push_reserved.ensures.items
          ∙ (ap (λ (l : List ℕ). l ++ c.word.result ∷ []) c.loop-w.invariant.words
          ∙ sym (take_next (slots_items c.args.closed.now.words) c.loop-w.w c.word.result c.word.ensures));
      room = omega (arith, c.loop-w.invariant.room, c.push_reserved.ensures.capacity);
    }
