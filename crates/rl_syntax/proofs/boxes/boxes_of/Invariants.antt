use Rattle.std.proofs.Common.{◌≡◌, length, drop, All}
use Rattle.toml.specs.View.{items_view}
use Rattle.rl_syntax.specs.Countable.{HasCountableArms}
use Rattle.rl_syntax.specs.DraftReading.{box_in, boxes_of}
use Rattle.rl_syntax.specs.Reading.{each}
use Rattle.rl_syntax.proofs.boxes.boxes_of.Given as goal

-- what is left is read after the boxes so far
abbrev pub invariant-loop-i : goal.invariant-loop-i
invariant-loop-i l = record {
  counted : length l.boxes ≡ l.i;
  arms : All HasCountableArms l.boxes;
  rest : boxes_of (items_view l.items) ≡ each box_in l.boxes (items_view (drop l.i l.items));
}
