use Rattle.std.proofs.Common.{◌≡◌, Result, Ok, Err, IfOk, subst, sym}
use Rattle.rl_base.specs.Draft.{HasNames}
use Rattle.rl_base.specs.declared.draft.Draft.{Draft}
use Rattle.rl_base.specs.declared.memory.NoMemory.{NoMemory}
use Rattle.rl_drafts.specs.Refusals.{IsAccepted}
use Rattle.rl_make.specs.Ring.{ring}
use Rattle.rl_make.proofs.Accepted.{accepted}
use Rattle.rl_make.proofs.Named.{ring_named}
use Rattle.rl_make.proofs.ring.make_draft.Goals as goal

-- what holds of the ring holds of the draft that is made
of_ring : (P : Draft → Type 0) (made : Draft) (r : Result Draft NoMemory) → IfOk r (λ draft. draft ≡ made) → P made → IfOk r P
of_ring P made (Ok draft) e h = subst P (sym e) h
of_ring P made (Err refusal) e h = tt

pub returns-clause-names : goal.returns-clause-names
returns-clause-names c = of_ring HasNames (ring c.args.n) c.ring_of.result c.ring_of.ensures (ring_named c.args.n c.requires.few)

pub returns-clause-accepted : goal.returns-clause-accepted
returns-clause-accepted c = of_ring IsAccepted (ring c.args.n) c.ring_of.result c.ring_of.ensures (accepted c.args.n c.requires.few)
