use Rattle.std.proofs.Common.{◌≡◌, refl}
use Rattle.std.specs.declared.io.ErrorKind.{ErrorKind}
use Rattle.std.specs.declared.io.ErrorKind.TheVariants.{OutOfMemory}
use Rattle.relis.specs.Exits.{number_without_words}
use Rattle.relis.proofs.exit.number_without_words.Goals as goal

another : (k : ErrorKind) → (k ≡ OutOfMemory → ⊥) → 5 ≡ number_without_words k
another OutOfMemory other = absurd (other refl)
another k other = refl

pub returns-in_default : goal.returns-in_default
returns-in_default c = rw (← c.kind.ensures) (another c.kind.result c.in_default.not-OutOfMemory)
