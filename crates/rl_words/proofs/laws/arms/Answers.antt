use Rattle.rl_words.proofs.ResvLemmas.{field-packed_resv, packed_resv-with_arm, FitsResv-with_arm, arm_in-with_arm_same, arm_in-with_arm_other}
use Rattle.rl_words.proofs.laws.arms.Goals as goal

pub returns : goal.returns
returns c = record {
  field = field-packed_resv;
  written = packed_resv-with_arm;
  fits = FitsResv-with_arm;
  same = arm_in-with_arm_same;
  others = arm_in-with_arm_other;
}
