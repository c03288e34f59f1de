-- The node that makes each step, and the word that it changes.
use Rattle.rl_base.specs.declared.layout.NodeKind.{NodeKind}
use Rattle.rl_base.specs.declared.layout.NodeKind.TheVariants as nodes
use Rattle.rl_base.specs.declared.layout.WordKind.{WordKind}
use Rattle.rl_base.specs.declared.layout.WordKind.TheVariants as words
use Rattle.rl_protocol.specs.Minds.{train, box}
use Rattle.rl_protocol.specs.Steps.{Step, post, hear_yes, hear_no, go, quiet, take, grant, refuse, release, lock_now}
use Rattle.rl_protocol.specs.Steps.{lock_ask, lock_moved, unlock, say_yes, say_no, busy, throw, settle, enter, head}
use Rattle.rl_protocol.specs.Steps.{leave, tail}

-- the node that makes each step, and the word that the step changes
abbrev pub node_of : Step → NodeKind
node_of (post t l) = nodes.Train (train t)
node_of (hear_yes t l) = nodes.Train (train t)
node_of (hear_no t l u job) = nodes.Train (train t)
node_of (go t) = nodes.Train (train t)
node_of (quiet t) = nodes.Train (train t)
node_of (take b t l) = nodes.Box (box b)
node_of (grant b t l) = nodes.Box (box b)
node_of (refuse b t l u) = nodes.Box (box b)
node_of (release b t l) = nodes.Box (box b)
node_of (lock_now b t l side) = nodes.Box (box b)
node_of (lock_ask b t l side) = nodes.Box (box b)
node_of (lock_moved b p) = nodes.Box (box b)
node_of (unlock b t l side) = nodes.Box (box b)
node_of (say_yes b t l) = nodes.Box (box b)
node_of (say_no b t l u) = nodes.Box (box b)
node_of (busy b t l p) = nodes.Box (box b)
node_of (throw b p) = nodes.Machine (box b)
node_of (settle b p) = nodes.Machine (box b)
node_of (enter t k) = nodes.Track (train t)
node_of (head t k) = nodes.Track (train t)
node_of (leave t k) = nodes.Track (train t)
node_of (tail t k) = nodes.Track (train t)

abbrev pub word_of : Step → WordKind
word_of (post t l) = words.Mail (train t)
word_of (hear_yes t l) = words.Mail (train t)
word_of (hear_no t l u job) = words.Mail (train t)
word_of (go t) = words.Run (train t)
word_of (quiet t) = words.Sense (train t)
word_of (take b t l) = words.Mail (train t)
word_of (grant b t l) = words.Resv (box b)
word_of (refuse b t l u) = words.Resv (box b)
word_of (release b t l) = words.Resv (box b)
word_of (lock_now b t l side) = words.Lock (box b)
word_of (lock_ask b t l side) = words.Lock (box b)
word_of (lock_moved b p) = words.Lock (box b)
word_of (unlock b t l side) = words.Lock (box b)
word_of (say_yes b t l) = words.Mail (train t)
word_of (say_no b t l u) = words.Mail (train t)
word_of (busy b t l p) = words.Lock (box b)
word_of (throw b p) = words.Lock (box b)
word_of (settle b p) = words.Lock (box b)
word_of (enter t k) = words.Run (train t)
word_of (head t k) = words.Sense (train t)
word_of (leave t k) = words.Run (train t)
word_of (tail t k) = words.Sense (train t)
