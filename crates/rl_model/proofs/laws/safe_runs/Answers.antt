use Rattle.rl_model.proofs.Kept.{kept_after, safe_run}
use Rattle.rl_model.proofs.laws.safe_runs.Goals as goal

pub returns-clause-kept : goal.returns-clause-kept
returns-clause-kept c = kept_after

pub returns-clause-runs : goal.returns-clause-runs
returns-clause-runs c = safe_run
