use Rattle.std.proofs.Common.{◌≡◌, take}
use Rattle.rl_core.specs.Reports.{counts_of}
use Rattle.rl_core.proofs.reports.counts_of.Given as goal

abbrev pub invariant-loop-m : goal.invariant-loop-m
invariant-loop-m l = l.counts.items ≡ counts_of (take l.m-index l.moves) l.trains
