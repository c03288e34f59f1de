use Rattle.std.proofs.Common.{arith}
use Rattle.rl_to_rest.proofs.Granting.{have_records}
use Rattle.rl_to_rest.proofs.Parted.{parted}
use Rattle.rl_to_rest.proofs.reports.run_to_rest.Goals as goal

pub go_to_rest-requires-clause-records : goal.go_to_rest-requires-clause-records
go_to_rest-requires-clause-records g c κs within =
    have_records c.args.rails.now c.args.line.now c.args.tries _ c.in_ok-nodes.nodes c.requires.line c.requires.tries c.layout-layout.ensures.line
    c.requires.few_tries c.in_ok-nodes.ensures.nodes (omega arith)

pub returns : goal.returns
returns g c =
    parted c.args.rails.now _ c.in_ok-nodes.nodes c.go_to_rest.new.nodes c.part.result c.parts_at_rest.ensures c.in_ok-nodes.ensures.nodes
    c.go_to_rest.ensures.kept c.in_ok-go_to_rest.ensures.rest c.part.ensures.parts c.part.ensures.all
