use Rattle.rl_tables.proofs.Ranges.{segments_there}
use Rattle.rl_tables.proofs.text.put_box.Goals as goal

pub put_arm-requires-clause-segment : goal.put_arm-requires-clause-segment
put_arm-requires-clause-segment c = segments_there c.args.net.now _ 0 c.args.x.now c.requires.network c.requires.table

pub put_arm-requires-2-clause-segment : goal.put_arm-requires-2-clause-segment
put_arm-requires-2-clause-segment c = segments_there c.args.net.now _ 1 c.args.x.now c.requires.network c.requires.table

pub put_arm-requires-3-clause-segment : goal.put_arm-requires-3-clause-segment
put_arm-requires-3-clause-segment c = segments_there c.args.net.now _ 2 c.args.x.now c.requires.network c.requires.table

pub put_arm-requires-4-clause-segment : goal.put_arm-requires-4-clause-segment
put_arm-requires-4-clause-segment c = segments_there c.args.net.now _ 3 c.args.x.now c.requires.network c.requires.table
