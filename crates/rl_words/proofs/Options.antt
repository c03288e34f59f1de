-- What holds of an option that may be empty.
use Rattle.std.proofs.Common.{Option, Some, None, IfNone}

-- what holds anyhow holds where there is nothing
pub IfNone-from : {A : Type 0} (o : Option A) (P : Type 0) → P → IfNone o P
IfNone-from None P p = p
IfNone-from (Some x) P p = tt
