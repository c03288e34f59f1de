use Rattle.rl_domain.proofs.world.World.test.Goals as goal

pub returns-in-Reserve : goal.returns-in-Reserve
returns-in-Reserve c = rw c.in-Reserve.is (c.test_reserve.ensures c.in-Reserve.t)
