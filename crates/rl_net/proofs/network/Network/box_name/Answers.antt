use Rattle.rl_net.proofs.network.Network.box_name.Goals as goal

pub returns-clause-valid : goal.returns-clause-valid
returns-clause-valid c = rw c.bytes.ensures (c.self.invariant.network.boxes _ _ c.at.ensures.there).name
