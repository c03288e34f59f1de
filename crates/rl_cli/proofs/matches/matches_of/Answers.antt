use Rattle.std.proofs.Common.{◌∙◌, ap, Bor, List, map, ℕ}
use Rattle.clap.specs.Words.{App, takes}
use Rattle.rl_cli.proofs.matches.matches_of.Goals as goal

pub returns : goal.returns
returns c =
    let words : List (List ℕ) = map (λ (s : Bor (List ℕ)). s.now) c.args.words.now in
    record {
      ok = tt;
      err = λ t. absurd (c.in_default.not-OutOfMemory
          (c.kind.ensures ∙ c.in-Err.ensures.passes (ap (λ (a : App). takes a words) c.in_ok-command.ensures ∙ t)));
    }
