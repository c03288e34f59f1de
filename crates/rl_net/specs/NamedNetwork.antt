-- A network beside the tables of its names.
use Rattle.std.specs.Prelude.{◌≡◌, map}
use Rattle.rl_model.specs.declared.network.Segment.{Segment}
use Rattle.rl_model.specs.declared.network.SwitchBox.{SwitchBox}
use Rattle.rl_model.specs.declared.network.Train.{Train}
use Rattle.rl_model.specs.declared.network.NetworkPlan.{NetworkPlan}
use Rattle.rl_model.specs.Network.{IsNetwork}
use Rattle.rl_net.specs.declared.named_draft.NameTables.{NameTables}

-- it is a network, and the tables are those of its segments, boxes and trains
pub record IsNamed (net : NetworkPlan) (names : NameTables) : Type 0 where
  pub network : IsNetwork net
  pub segments : names.segments ≡ map (λ (g : Segment). g.name) net.segments
  pub boxes : names.boxes ≡ map (λ (x : SwitchBox). x.name) net.boxes
  pub trains : names.trains ≡ map (λ (r : Train). r.name) net.trains
