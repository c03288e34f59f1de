-- The table of each train of a line is one by which a train can step.
use Rattle.std.proofs.Common.{◌≡◌, ℕ, ◌+◌, ◌<◌, ◌≤◌, true, List, length, Option, Some, None, slice_get, refl, subst, sym, arith}
use Rattle.std.specs.Prelude.{is_some}
use Rattle.std.proofs.lemmas.Option.{slice_get_within}
use Rattle.rl_base.specs.declared.limits.TheConstants.{MAX_BOXES}
use Rattle.rl_base.specs.declared.kind.Kind.{Kind}
use Rattle.rl_base.specs.declared.kind.Kind.TheVariants.{Buffer, Joint, Point, Crossing}
use Rattle.rl_base.specs.Kind.{arms_of}
use Rattle.rl_tables.specs.declared.table.NextRow.{NextRow}
use Rattle.rl_tables.specs.declared.table.StepRow.{StepRow}
use Rattle.rl_tables.specs.declared.table.Tables.{Tables}
use Rattle.rl_tables.specs.declared.table.TrainTable.{TrainTable}
use Rattle.rl_tables.specs.Kept.{line_kind, IsArm, IsRow, next_in, IsAhead, IsTrain, IsLine}
use Rattle.rl_train.specs.Jobs.{looks_ahead}
use Rattle.rl_train.specs.Mind.{NextCanBeNamed, CanBeNamed, IsUsable}

few_arms : (kind : Kind) → arms_of kind ≤ 4
few_arms Buffer = omega arith
few_arms Joint = omega arith
few_arms Point = omega arith
few_arms Crossing = omega arith

few_boxes : (tables : Tables) (b arm s : ℕ) → length tables.boxes ≤ MAX_BOXES → IsArm tables b arm s → b < MAX_BOXES
few_boxes tables b arm s few a = let there = a.box in omega arith

low_arm : (tables : Tables) (b arm s : ℕ) → IsArm tables b arm s → arm < 4
low_arm tables b arm s a = let among = a.among in let most = few_arms (line_kind tables b) in omega arith

-- what a row looks ahead to is in the row after it
next_named : (tables : Tables) (t : ℕ) (table : TrainTable) (k : ℕ) (row : StepRow) (n : NextRow) → length tables.boxes ≤ MAX_BOXES → IsTrain tables t table
    → slice_get table.rows k ≡ Some row → row.next ≡ Some n → NextCanBeNamed n
next_named tables t table k row n few train here looks =
    let is = train.next k row n here looks in
    let after = train.rows (k + 1) is.after is.there in
    subst (λ (m : NextRow). NextCanBeNamed m) (sym is.next_is)
    (record {
      b2 = few_boxes tables _ _ _ few after.near;
      b2_arm = low_arm tables _ _ _ after.near;
      c2 = few_boxes tables _ _ _ few after.far;
      c2_arm = low_arm tables _ _ _ after.far;
    })

-- so it has a row after it
ahead_within : (tables : Tables) (t : ℕ) (table : TrainTable) (k : ℕ) (row : StepRow) → IsTrain tables t table → slice_get table.rows k ≡ Some row
    → looks_ahead row ≡ true → k + 1 < length table.rows
ahead_within tables t table k row train here looks = of row.next refl looks
  where
    of : (o : Option NextRow) → row.next ≡ o → is_some o ≡ true → k + 1 < length table.rows
    of None e h = absurd (cc)
    of (Some n) e h = let is = train.next k row n here e in slice_get_within table.rows (k + 1) is.after is.there

named : (tables : Tables) (row : StepRow) → length tables.boxes ≤ MAX_BOXES → IsRow tables row → ((n : NextRow) → row.next ≡ Some n → NextCanBeNamed n)
    → CanBeNamed row
named tables row few r next =
    record {
      b = few_boxes tables _ _ _ few r.near;
      x = low_arm tables _ _ _ r.here;
      y = low_arm tables _ _ _ r.near;
      apart = r.arms_apart;
      c = few_boxes tables _ _ _ few r.far;
      c_arm = low_arm tables _ _ _ r.far;
      a = few_boxes tables _ _ _ few r.back;
      a_arm = low_arm tables _ _ _ r.back;
      next = next;
    }

pub usable : (tables : Tables) (t : ℕ) (table : TrainTable) → IsLine tables → slice_get tables.trains t ≡ Some table → IsUsable table
usable tables t table line e =
    let train = line.trains t table e in
    let within = slice_get_within tables.trains t table e in
    let few = line.few_trains in
    let number = train.number in
    record {
      number = omega arith;
      short = train.short;
      rows = λ k row f. named tables row line.few_boxes (train.rows k row f) (λ n looks. next_named tables t table k row n line.few_boxes train f looks);
      goes_on = λ k row f looks. ahead_within tables t table k row train f looks;
    }
