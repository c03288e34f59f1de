-- What a sink takes of a text, and what a write's answer is to it.
use Rattle.std.specs.Prelude.{ℕ, ◌<◌, nat_lt, List, length, take, Option, Result, Ok, Err, if◌then◌else◌}
use Rattle.std.specs.Io.KnownBytes.{Appends}
use Rattle.rl_outside.specs.declared.sink.SinkFault.{SinkFault}

-- the known bytes grew by the first bytes of the text only, and not by all of it
abbrev pub AppendsPart : Option (List ℕ) → Option (List ℕ) → List ℕ → Type 0
AppendsPart before now text = (n : ℕ) × (n < length text) × Appends before now (take n text)

abbrev pub sink_fault : SinkFault
sink_fault = record {}

-- what the answer to a write of std is to a sink: an error is a fault, and so is a write that took no byte
abbrev pub taken_by : {E : Type 0} → Result ℕ E → Result ℕ SinkFault
taken_by (Ok n) = if nat_lt 0 n then Ok n else Err sink_fault
taken_by (Err e) = Err sink_fault

-- a sink over a writer of std: the writer, and how many writes failed
pub record SinkState (W : Type 0) : Type 0 where
  pub to : W
  pub faults : ℕ
