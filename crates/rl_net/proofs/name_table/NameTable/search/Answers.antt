use Rattle.std.proofs.Common.{◌∙◌}
use Rattle.rl_net.proofs.NameKeys.{position-number}
use Rattle.rl_net.proofs.name_table.NameTable.search.Goals as goal

pub returns-clause-number : goal.returns-clause-number
returns-clause-number c =
    rw (← c.self.view_is) (c.get_index_of.ensures.index ∙ position-number c.self.inside.names.keys c.args.name.now)
