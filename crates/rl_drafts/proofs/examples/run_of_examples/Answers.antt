use Rattle.std.proofs.Common.{refl}
use Rattle.std.specs.Fmt.{digits}
use Rattle.rl_drafts.specs.Examples.{one_train}
use Rattle.rl_drafts.proofs.ExampleRun.{example_run}
use Rattle.rl_drafts.proofs.Networks.{IsNetwork-accepted}
use Rattle.rl_drafts.proofs.examples.run_of_examples.Goals as goal

pub returns-clause-network : goal.returns-clause-network
returns-clause-network c = IsNetwork-accepted one_train (record { segments = refl; boxes = refl; arms = refl; trains = refl; routes = refl }) refl

pub returns-clause-safe : goal.returns-clause-safe
returns-clause-safe c = example_run

pub returns-clause-text : goal.returns-clause-text
unfolding digits
returns-clause-text c = refl
