-- A box at work: the word at which it looks, and that it has a step there.
use Rattle.std.specs.Prelude.{◌≡◌, ℕ, Option, Some, None}
use Rattle.rl_base.specs.declared.job.Verb.{Verb}
use Rattle.rl_base.specs.declared.job.Verb.TheVariants as verbs
use Rattle.rl_base.specs.declared.layout.NodeKind.{NodeKind}
use Rattle.rl_base.specs.declared.layout.WordKind.{WordKind}
use Rattle.rl_base.specs.declared.layout.WordKind.TheVariants as words
use Rattle.rl_box.specs.declared.mind.Work.{Work}
use Rattle.rl_box.specs.declared.mind.Work.TheVariants.{Ready, Serve, Say}
use Rattle.rl_protocol.specs.Line.{Line}
use Rattle.rl_protocol.specs.State.{State}
use Rattle.rl_protocol.specs.Minds.{box}
use Rattle.rl_protocol.specs.Steps.{Step, StepFits}
use Rattle.rl_protocol.specs.Nodes.{node_of, word_of}

-- the node can make a step on the word
pub record HasStep (line : Line) (s : State) (node : NodeKind) (word : WordKind) : Type 0 where
  pub step : Step
  pub fits : StepFits line s step
  pub by_node : node_of step ≡ node
  pub on_word : word_of step ≡ word

-- the word of box b to which a letter with the verb leads
abbrev pub word_for : ℕ → Verb → WordKind
word_for b verbs.Reserve = words.Resv (box b)
word_for b verbs.Release = words.Resv (box b)
word_for b verbs.Lock = words.Lock (box b)
word_for b verbs.Unlock = words.Lock (box b)

-- the word at which box b looks while it serves or says
abbrev pub word_at_work : ℕ → Work → Option WordKind
word_at_work b Ready = None
word_at_work b (Serve t l) = Some (word_for b l.verb)
word_at_work b (Say t l answer) = Some (words.Mail t)
