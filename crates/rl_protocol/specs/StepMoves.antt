-- The move of each step, for those that have one.
use Rattle.std.specs.Prelude.{ℕ, Option, Some, None, option_map}
use Rattle.rl_base.specs.declared.ids.TrainId.{TrainId}
use Rattle.rl_base.specs.declared.ids.SegId.{SegId}
use Rattle.rl_base.specs.declared.ids.Arm.{Arm}
use Rattle.rl_base.specs.declared.job.Verb.{Verb}
use Rattle.rl_base.specs.declared.job.Verb.TheVariants as verbs
use Rattle.rl_base.specs.Kind.{joining_side}
use Rattle.rl_words.specs.declared.mail.Letter.{Letter}
use Rattle.rl_model.specs.declared.moves.Move.{Move}
use Rattle.rl_model.specs.declared.moves.Move.TheVariants as moves
use Rattle.rl_protocol.specs.Line.{Line}
use Rattle.rl_protocol.specs.Minds.{train, box}
use Rattle.rl_protocol.specs.Steps.{Step, grant, release, lock_now, lock_ask, unlock, say_no, throw, settle, enter}
use Rattle.rl_protocol.specs.Steps.{leave}

-- the segment at an arm of a box
abbrev pub seg_at : Line → ℕ → Arm → SegId
seg_at line b x = line.segment b x.0

-- a No to a reservation is a Refuse, one to a lock a Bar
abbrev pub refusal_of : Line → ℕ → ℕ → Letter → TrainId → Verb → Option Move
refusal_of line b t l u verbs.Reserve = Some (moves.Refuse (train t) (seg_at line b l.x) (box b) u)
refusal_of line b t l u verbs.Lock = Some (moves.Bar (train t) (box b) u)
refusal_of line b t l u _ = None

-- the move of each step, for those that have one
abbrev pub move_of : Line → Step → Option Move
move_of line (grant b t l) = Some (moves.Reserve (train t) (seg_at line b l.x) (box b))
move_of line (release b t l) = Some (moves.Release (train t) (seg_at line b l.x) (box b))
move_of line (lock_now b t l side) = Some (moves.Lock (train t) (box b) (seg_at line b l.x) (seg_at line b l.y))
move_of line (lock_ask b t l side) = Some (moves.Lock (train t) (box b) (seg_at line b l.x) (seg_at line b l.y))
move_of line (unlock b t l side) = Some (moves.Unlock (train t) (box b))
move_of line (say_no b t l u) = refusal_of line b t l u l.verb
move_of line (throw b p) = Some (moves.Throw (box b))
move_of line (settle b p) = option_map (moves.Settle (box b)) (joining_side (line.kind b) p.x.0 p.y.0)
move_of line (enter t k) = let row = line.row t k in Some (moves.Enter (train t) row.b row.s row.s2)
move_of line (leave t k) = Some (moves.Leave (train t) (line.row t k).s)
move_of line _ = None
