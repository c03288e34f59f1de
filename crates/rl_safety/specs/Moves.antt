-- The move of an event: what the change of its word is on the railway, if it is anything there.
use Rattle.std.specs.Prelude.{ℕ, List, [], ◌∷◌, ◌++◌, Option, Some, None, option_map, option_and_then, option_to_list}
use Rattle.std.specs.Option.{option_or}
use Rattle.rl_base.specs.declared.ids.BoxId.{BoxId}
use Rattle.rl_base.specs.declared.ids.TrainId.{TrainId}
use Rattle.rl_base.specs.declared.job.Verb.{Verb}
use Rattle.rl_base.specs.declared.job.Verb.TheVariants as verbs
use Rattle.rl_base.specs.Kind.{joining_side}
use Rattle.rl_model.specs.declared.moves.Move.{Move}
use Rattle.rl_model.specs.declared.moves.Move.TheVariants as moves
use Rattle.rl_record.specs.declared.event.Event.{Event}
use Rattle.rl_words.specs.declared.lock.LockWord.{LockWord}
use Rattle.rl_words.specs.declared.lock.LockWord.TheVariants.{Free, Asked, Moving, Moved, Locked}
use Rattle.rl_words.specs.declared.lock.Path.{Path}
use Rattle.rl_words.specs.declared.mail.Letter.{Letter}
use Rattle.rl_words.specs.declared.mail.MailWord.{MailWord}
use Rattle.rl_words.specs.declared.mail.MailWord.TheVariants.{Taken, No}
use Rattle.rl_words.specs.declared.resv.ResvWord.{ResvWord}
use Rattle.rl_words.specs.declared.run.RunWord.{RunWord}
use Rattle.rl_words.specs.declared.run.RunWord.TheVariants.{Clear, Go, Across}
use Rattle.rl_words.specs.Stamps.{payload_in}
use Rattle.rl_words.specs.Word.{Word, read_word}
use Rattle.rl_words.specs.Word.Word.{Resv, Lock, Mail, Run}
use Rattle.rl_tables.specs.declared.table.StepRow.{StepRow}
use Rattle.rl_tables.specs.declared.table.Tables.{Tables}
use Rattle.rl_tables.specs.Kept.{line_kind}
use Rattle.rl_tables.specs.Starts.{layout_of}
use Rattle.rl_steps.specs.Numbers.{word_at}
use Rattle.rl_protocol.specs.TableLine.{row_at}
use Rattle.rl_safety.specs.Railway.{segment_of}

-- an arm that was free and is held was reserved, and one that was held and is free was released
abbrev pub arm_move : Tables → BoxId → ℕ → Option TrainId → Option TrainId → Option Move
arm_move tables b x None (Some t) = Some (moves.Reserve t (segment_of tables b x) b)
arm_move tables b x (Some t) None = Some (moves.Release t (segment_of tables b x) b)
arm_move tables b x None None = None
arm_move tables b x (Some t) (Some u) = None

-- at the first arm that has changed
abbrev pub resv_move : Tables → BoxId → ResvWord → ResvWord → Option Move
resv_move tables b w v =
    option_or (arm_move tables b 0 w.arm0 v.arm0) (option_or (arm_move tables b 1 w.arm1 v.arm1)
    (option_or (arm_move tables b 2 w.arm2 v.arm2) (arm_move tables b 3 w.arm3 v.arm3)))

abbrev pub lock_on : Tables → BoxId → Path → Option Move
lock_on tables b p = Some (moves.Lock p.train b (segment_of tables b p.x.0) (segment_of tables b p.y.0))

-- a box that was free and has a lock was locked, and the other way round; points are thrown and settle
abbrev pub lock_move : Tables → BoxId → LockWord → LockWord → Option Move
lock_move tables b (Free side) (Locked p) = lock_on tables b p
lock_move tables b (Free side) (Asked p) = lock_on tables b p
lock_move tables b (Asked p) (Moving q) = Some (moves.Throw b)
lock_move tables b (Moving p) (Moved q) = option_map (moves.Settle b) (joining_side (line_kind tables b.0) p.x.0 p.y.0)
lock_move tables b (Locked p) (Free side) = Some (moves.Unlock p.train b)
lock_move tables b _ _ = None

-- a No to a reservation is a Refuse, one to a lock a Bar
abbrev pub denial : Tables → TrainId → Letter → TrainId → Verb → Option Move
denial tables t l u verbs.Reserve = Some (moves.Refuse t (segment_of tables l.to l.x.0) l.to u)
denial tables t l u verbs.Lock = Some (moves.Bar t l.to u)
denial tables t l u verbs.Release = None
denial tables t l u verbs.Unlock = None

abbrev pub mail_move : Tables → TrainId → MailWord → MailWord → Option Move
mail_move tables t (Taken l) (No k u) = denial tables t l u l.verb
mail_move tables t _ _ = None

-- a train that was to go and is across entered; one that was across and is clear left its segment
abbrev pub run_move : Tables → TrainId → RunWord → RunWord → Option Move
run_move tables t (Go k) (Across j) =
    option_map (λ (row : StepRow). moves.Enter t row.b row.s row.s2) (row_at tables t.0 k)
run_move tables t (Across k) (Clear j) = option_map (λ (row : StepRow). moves.Leave t row.s) (row_at tables t.0 k)
run_move tables t _ _ = None

-- what a word was and what it is
abbrev pub word_move : Tables → Word → Word → Option Move
word_move tables (Resv b w) (Resv c v) = resv_move tables b w v
word_move tables (Lock b w) (Lock c v) = lock_move tables b w v
word_move tables (Mail t w) (Mail u v) = mail_move tables t w v
word_move tables (Run t w) (Run u v) = run_move tables t w v
word_move tables _ _ = None

-- the move of an event, by what its word was and what it is after it
abbrev pub move_of : Tables → Event → Option Move
move_of tables e =
    option_and_then (λ kind.
    option_and_then (λ was. option_and_then (word_move tables was) (read_word kind (payload_in e.now)))
    (read_word kind (payload_in e.was)))
    (word_at (layout_of tables) e.word.0)

-- the moves of a run, the oldest first; the run has the newest event first
abbrev pub moves_of : Tables → List Event → List Move
moves_of tables [] = []
moves_of tables (e ∷ earlier) = moves_of tables earlier ++ option_to_list (move_of tables e)
