use Rattle.std.proofs.Common.{◌≡◌, length, drop, All}
use Rattle.toml.specs.View.{items_view}
use Rattle.rl_syntax.specs.Countable.{HasCountableRoute}
use Rattle.rl_syntax.specs.DraftReading.{train_in, trains_of}
use Rattle.rl_syntax.specs.Reading.{each}
use Rattle.rl_syntax.proofs.trains.trains_of.Given as goal

-- what is left is read after the trains so far
abbrev pub invariant-loop-i : goal.invariant-loop-i
invariant-loop-i l = record {
  counted : length l.trains ≡ l.i;
  routes : All HasCountableRoute l.trains;
  rest : trains_of (items_view l.items) ≡ each train_in l.trains (items_view (drop l.i l.items));
}
