use Rattle.rl_nodes.specs.Parts.{AreParts}
use Rattle.rl_nodes.specs.Parting.{ArePartsOf}
use Rattle.rl_nodes.proofs.Rows.{ok_on}
use Rattle.rl_nodes.proofs.Staying.{parts_of_rails}
use Rattle.rl_nodes.proofs.parting.part.Goals as goal

pub returns-clause-all : goal.returns-clause-all
returns-clause-all c = λ rails limit are.
    ok_on (ArePartsOf c.args.nodes) (AreParts rails) c.parts_of.result
    (λ parts is. parts_of_rails rails limit c.args.nodes parts are is) c.parts_of.ensures
