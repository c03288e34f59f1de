-- Where the mind of each train's node rests, every train rests.
use Rattle.std.proofs.Common.{◌≡◌, ℕ, ◌<◌, true}
use Rattle.std.proofs.Common.{[], length, slice_get, Some, refl, sym, ap, subst}
use Rattle.std.proofs.lemmas.Option.{slice_get_within}
use Rattle.rl_base.specs.declared.layout.NodeKind.TheVariants as nodes
use Rattle.rl_train.specs.Jobs.{is_near}
use Rattle.rl_protocol.proofs.Moved.{item_there}
use Rattle.rl_steps.specs.declared.mind.Mind.{Mind}
use Rattle.rl_steps.specs.declared.mind.Mind.TheVariants.{Train}
use Rattle.rl_steps.specs.Numbers.{train}
use Rattle.rl_steps.specs.Run.{state}
use Rattle.rl_steps.specs.State.{CoreState, start, start_mind_of}
use Rattle.rl_steps.proofs.Numbering.{node_at-number}
use Rattle.rl_safety.specs.Rests.{IsResting, AllTrainsRest}
use Rattle.rl_steps.proofs.Options.{same_some}
use Rattle.rl_tables.specs.declared.table.Tables.{Tables}
use Rattle.rl_tables.specs.declared.table.TrainTable.{TrainTable}
use Rattle.rl_tables.specs.Starts.{layout_of}
use Rattle.rl_train.specs.declared.mind.TrainMind.{TrainMind}
use Rattle.rl_train.specs.Mind.{at_rest, start_train}
use Rattle.rl_to_rest.specs.Starts.{NoneMoves}

-- the node of train t has a mind of a train, at rest by the train's table
pub record HasRestingTrain (tables : Tables) (c : CoreState) (t : ℕ) : Type 0 where
  pub mind : TrainMind
  pub table : TrainTable
  pub there : slice_get tables.trains t ≡ Some table
  pub has : c.minds t ≡ Train mind
  pub rests : at_rest table mind ≡ true

pub all_rest : (tables : Tables) (c : CoreState) → ((t : ℕ) → t < length tables.trains → HasRestingTrain tables c t) → AllTrainsRest tables c
all_rest tables c each t x there =
    let has = each t (slice_get_within tables.trains t x there) in
    let same : has.table ≡ x = same_some (slice_get tables.trains t) has.table x has.there there in
    let rests : at_rest x has.mind ≡ true = subst (λ (y : TrainTable). at_rest y has.mind ≡ true) same has.rests in
    subst (λ (m : Mind). IsResting x m) (sym has.has) rests

-- a train without steps rests at the start
start_rests : (tables : Tables) (tries t : ℕ) → NoneMoves tables → t < length tables.trains → HasRestingTrain tables (start tables tries) t
unfolding is_near
start_rests tables tries t none here =
    let x = item_there tables.trains t here in
    let rows : x.0.rows ≡ [] = none t x.0 x.1 in
    record {
      mind = start_train tries;
      table = x.0;
      there = x.1;
      has = ap (start_mind_of tries) (node_at-number (layout_of tables) (nodes.Train (train t)) here);
      rests = rw rows refl;
    }

pub all_rest_at_start : (tables : Tables) (tries : ℕ) → NoneMoves tables → AllTrainsRest tables (state tables tries [])
all_rest_at_start tables tries none = all_rest tables (start tables tries) (λ t here. start_rests tables tries t none here)
