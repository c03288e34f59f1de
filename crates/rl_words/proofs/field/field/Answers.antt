use Rattle.std.proofs.Common.{◌/◌, ◌^◌}
use Rattle.std.proofs.lemmas.Nat.{one_shl, and_mask}
use Rattle.rl_words.proofs.field.field.Goals as goal

pub returns : goal.returns
returns c = rw (one_shl c.args.bits 32 c.requires.bits) (and_mask (c.args.x / 2 ^ c.args.at) c.args.bits)
