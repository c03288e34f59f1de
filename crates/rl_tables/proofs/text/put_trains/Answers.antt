use Rattle.std.proofs.Common.{◌≡◌, slice_get, Some}
use Rattle.rl_tables.proofs.Ranges.{train_there, item_there}
use Rattle.rl_tables.proofs.text.put_trains.Goals as goal

pub put_train-requires-clause-there : goal.put_train-requires-clause-there
put_train-requires-clause-there c =
    let at : slice_get c.args.line.now.trains c.loop-x.x-index ≡ Some c.x-item.result =
    item_there c.args.line.now.trains c.train_tables-x-items.result.now c.loop-x.x-index c.x-item.result c.train_tables-x-items.ensures.tables
    c.loop-x-test.true c.x-item.is in
    (train_there c.args.net.now c.args.line.now _ _ c.requires.network c.requires.tables at).train

pub put_train-requires-clause-short : goal.put_train-requires-clause-short
put_train-requires-clause-short c =
    let at : slice_get c.args.line.now.trains c.loop-x.x-index ≡ Some c.x-item.result =
    item_there c.args.line.now.trains c.train_tables-x-items.result.now c.loop-x.x-index c.x-item.result c.train_tables-x-items.ensures.tables
    c.loop-x-test.true c.x-item.is in
    (train_there c.args.net.now c.args.line.now _ _ c.requires.network c.requires.tables at).short

pub put_train-requires-clause-rows : goal.put_train-requires-clause-rows
put_train-requires-clause-rows c =
    let at : slice_get c.args.line.now.trains c.loop-x.x-index ≡ Some c.x-item.result =
    item_there c.args.line.now.trains c.train_tables-x-items.result.now c.loop-x.x-index c.x-item.result c.train_tables-x-items.ensures.tables
    c.loop-x-test.true c.x-item.is in
    (train_there c.args.net.now c.args.line.now _ _ c.requires.network c.requires.tables at).rows
