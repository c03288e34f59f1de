-- No list of a run is long: by how often trains may try.
use Rattle.std.proofs.Common.{◌≡◌, ℕ, ◌+◌, ◌*◌, ◌<◌, ◌≤◌, ◌==◌, nat_lt, Bool, true}
use Rattle.std.proofs.Common.{false, if◌then◌else◌, List, length, reverse, All, slice_index_or, Some, refl, ap, subst, ◌∙◌, arith}
use Rattle.std.proofs.lemmas.Bool.Decides.{nat_tests}
use Rattle.std.proofs.lemmas.List.{length-reverse}
use Rattle.std.proofs.lemmas.List.Sums.{length-filter}
use Rattle.std.proofs.lemmas.Option.{slice_get-get_or}
use Rattle.std.proofs.Math.Nat.{mul-le-mul_left}
use Rattle.rl_base.specs.declared.limits.TheConstants.{MAX_TRAINS, MAX_TRIES, MAX_ATTEMPT_EVENTS, MAX_ATTEMPT_NODE_EVENTS}
use Rattle.rl_base.specs.Numbers.{IsU32}
use Rattle.rl_base.specs.Tries.{AreFewTries}
use Rattle.rl_base.specs.declared.layout.Layout.{Layout}
use Rattle.rl_base.specs.declared.layout.NodeKind.{NodeKind}
use Rattle.rl_base.specs.Layout.{node_count}
use Rattle.rl_record.specs.declared.event.Event.{Event}
use Rattle.rl_record.specs.Merge.{history}
use Rattle.rl_record.specs.Records.{Record}
use Rattle.rl_merge.specs.Records.{AreRecordsOf}
use Rattle.rl_tables.specs.declared.table.Tables.{Tables}
use Rattle.rl_tables.specs.Kept.{IsLine}
use Rattle.rl_tables.specs.Starts.{layout_of}
use Rattle.rl_steps.specs.Numbers.{node_at}
use Rattle.rl_steps.specs.Run.{IsRun}
use Rattle.rl_safety.specs.Counts.{events_by, attempts_of}
use Rattle.rl_nodes.specs.Finished.{AreFew}

-- every number below the number of nodes is a node's
pub node_there : (lay : Layout) (n : ℕ) → n < node_count lay → (node : NodeKind) × (node_at lay n ≡ Some node)
node_there lay n within =
    let last : nat_lt n (node_count lay) ≡ true = grind (arith, nat_tests) in
    rw last (by (nat_lt n lay.trains) (nat_lt n (2 * lay.trains)) (nat_lt n (2 * lay.trains + lay.boxes)) _ _ _ _)
  where
    by : (a b d : Bool) (w x y z : NodeKind)
        → (node : NodeKind) × ((if a then Some w else (if b then Some x else (if d then Some y else Some z))) ≡ Some node)
    by true b d w x y z = (w, refl)
    by false true d w x y z = (x, refl)
    by false false true w x y z = (y, refl)
    by false false false w x y z = (z, refl)

-- the laws of counts that are used here
pub record Counts : Type 0 where
  pub events : (tables : Tables) (tries : ℕ) (events : List Event) → IsLine tables → AreFewTries tries → IsRun tables tries events
      → length events ≤ MAX_ATTEMPT_EVENTS * attempts_of tables tries events
  pub node : (tables : Tables) (tries : ℕ) (events : List Event) (n : ℕ) (node : NodeKind) → IsLine tables → AreFewTries tries
      → IsRun tables tries events → node_at (layout_of tables) n ≡ Some node → events_by n events ≤ MAX_ATTEMPT_NODE_EVENTS * attempts_of tables tries events
  pub opened : (tables : Tables) (tries : ℕ) (events : List Event) → attempts_of tables tries events ≤ length tables.trains * tries

few_attempts : (tables : Tables) (tries : ℕ) → IsLine tables → AreFewTries tries → length tables.trains * tries ≤ MAX_TRAINS * MAX_TRIES
few_attempts tables tries line few =
    let trains : length tables.trains ≤ MAX_TRAINS = line.few_trains in
    let by_tries : length tables.trains * tries ≤ length tables.trains * MAX_TRIES = mul-le-mul_left (length tables.trains) few in
    omega (arith, by_tries, trains)

-- so a run has room in 32 bits
pub room : Counts → (tables : Tables) (tries : ℕ) (log : List Event) → IsLine tables → AreFewTries tries → IsRun tables tries log → IsU32 (length log)
room counts tables tries log line few run =
    omega (arith, counts.events tables tries log line few run, counts.opened tables tries log, few_attempts tables tries line few)

-- the records of the nodes of a run, and its merge
record_few : Counts → (tables : Tables) (tries : ℕ) (log : List Event) (records : List Record) → IsLine tables → AreFewTries tries → IsRun tables tries log
    → AreRecordsOf log records → length records ≡ node_count (layout_of tables)
    → All (λ r. length r.events ≤ MAX_ATTEMPT_NODE_EVENTS * attempts_of tables tries log) records
record_few counts tables tries log records line few run are size k d within =
    let r = slice_index_or records k d in
    let at = slice_get-get_or records k d within in
    let there = node_there (layout_of tables) k (omega arith) in
    let made : length r.events ≡ events_by k log =
    ap (λ (l : List Event). length l) (are.each k r at) ∙ (length-reverse (history k log) ∙ length-filter (λ (e : Event). e.node.0 == k) log) in
    omega (arith, made, counts.node tables tries log k there.0 line few run there.1)

pub all_few : Counts → (tables : Tables) (tries : ℕ) (log : List Event) (records : List Record) (events : List Event) → IsLine tables → AreFewTries tries
    → IsRun tables tries log → AreRecordsOf log records → length records ≡ node_count (layout_of tables) → IsRun tables tries (reverse events)
    → attempts_of tables tries log ≡ attempts_of tables tries (reverse events) → AreFew (attempts_of tables tries (reverse events)) records events
all_few counts tables tries log records events line few run are size merged same =
    let Few : ℕ → Type 0 = λ attempts. All (λ (r : Record). length r.events ≤ MAX_ATTEMPT_NODE_EVENTS * attempts) records in
    record {
      each = subst Few same (record_few counts tables tries log records line few run are size);
      all = omega (arith, length-reverse events, counts.events tables tries (reverse events) line few merged);
      fits = omega (arith, few_attempts tables tries line few, counts.opened tables tries (reverse events));
    }
