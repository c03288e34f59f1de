use Rattle.std.proofs.Common.{◌≡◌, ◌*◌, ◌%◌, ◌^◌, ◌∙◌}
use Rattle.std.proofs.Math.Nat.{mod-eq_of_lt, add_comm}
use Rattle.std.proofs.lemmas.Nat.{or_comm, or_shifted}
use Rattle.rl_words.proofs.field.with_bits.Goals as goal

pub returns : goal.returns
returns c =
    let kept : (c.args.value * 2 ^ c.args.at) % 2 ^ 32 ≡ c.args.value * 2 ^ c.args.at = mod-eq_of_lt c.requires.fits in
    rw kept (or_comm c.args.x (c.args.value * 2 ^ c.args.at) ∙ or_shifted c.args.value c.args.at c.args.x c.requires.below
    ∙ add_comm (c.args.value * 2 ^ c.args.at) c.args.x)
