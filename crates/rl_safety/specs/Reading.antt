-- The state of the protocol, read from the words and the minds of a core.
use Rattle.std.specs.Prelude.{ℕ, nat_lt, Bool, true, slice_index_or, Option, Some, None, unwrap_or, if◌then◌else◌}
use Rattle.rl_base.specs.declared.ids.TrainId.{TrainId}
use Rattle.rl_base.specs.declared.kind.Side.TheVariants.{Left}
use Rattle.rl_base.specs.declared.layout.Layout.{Layout}
use Rattle.rl_base.specs.declared.layout.NodeKind.TheVariants as nodes
use Rattle.rl_base.specs.declared.layout.WordKind.{WordKind}
use Rattle.rl_base.specs.declared.layout.WordKind.TheVariants as words
use Rattle.rl_base.specs.Layout.{word_number, node_number}
use Rattle.rl_words.specs.declared.resv.ResvWord.{ResvWord}
use Rattle.rl_words.specs.declared.lock.LockWord.{LockWord}
use Rattle.rl_words.specs.declared.lock.LockWord.TheVariants.{Free}
use Rattle.rl_words.specs.declared.mail.MailWord.{MailWord}
use Rattle.rl_words.specs.declared.mail.MailWord.TheVariants.{Empty}
use Rattle.rl_words.specs.declared.run.RunWord.{RunWord}
use Rattle.rl_words.specs.declared.run.RunWord.TheVariants.{Clear}
use Rattle.rl_words.specs.declared.sense.SenseWord.{SenseWord}
use Rattle.rl_words.specs.declared.sense.SenseWord.TheVariants.{Quiet}
use Rattle.rl_words.specs.Readings.{read_resv, read_lock, read_mail, read_run, read_sense}
use Rattle.rl_words.specs.Stamps.{payload_in}
use Rattle.rl_tables.specs.declared.table.Tables.{Tables}
use Rattle.rl_tables.specs.Starts.{layout_of}
use Rattle.rl_train.specs.declared.mind.TrainMind.{TrainMind}
use Rattle.rl_train.specs.Mind.{start_train}
use Rattle.rl_box.specs.declared.mind.BoxMind.{BoxMind}
use Rattle.rl_box.specs.Mind.{start_box}
use Rattle.rl_track.specs.declared.track.TrackMind.{TrackMind}
use Rattle.rl_track.specs.Track.{start_track}
use Rattle.rl_steps.specs.declared.mind.Mind.{Mind}
use Rattle.rl_steps.specs.declared.mind.Mind.TheVariants.{Train, Track, Box}
use Rattle.rl_steps.specs.Numbers.{train, box}
use Rattle.rl_steps.specs.State.{CoreState}
use Rattle.rl_protocol.specs.Sentences.{holder_in}
use Rattle.rl_protocol.specs.State.{State}

-- a mind as that of a train, a track or a box; a mind of another kind stands for the one at the start
abbrev pub train_mind : ℕ → Mind → TrainMind
train_mind tries (Train m) = m
train_mind tries _ = start_train tries

abbrev pub track_mind : Mind → TrackMind
track_mind (Track m) = m
track_mind _ = start_track

abbrev pub box_mind : Mind → BoxMind
box_mind (Box m) = m
box_mind _ = start_box

-- the word is the still word, or one of a box or a train of the layout
abbrev pub has_word : Layout → WordKind → Bool
has_word lay words.Still = true
has_word lay (words.Resv b) = nat_lt b.0 lay.boxes
has_word lay (words.Lock b) = nat_lt b.0 lay.boxes
has_word lay (words.Mail t) = nat_lt t.0 lay.trains
has_word lay (words.Run t) = nat_lt t.0 lay.trains
has_word lay (words.Sense t) = nat_lt t.0 lay.trains

-- what a word says, as its payload; 0 for a word that isn't there
abbrev pub payload_of : Tables → CoreState → WordKind → ℕ
payload_of tables c kind =
    if has_word (layout_of tables) kind then payload_in
    (slice_index_or c.words (word_number (layout_of tables) kind) 0) else 0

-- the mind of a train, a track and a box of the line
abbrev pub train_of : Tables → ℕ → CoreState → ℕ → TrainMind
train_of tables tries c t =
    if nat_lt t (layout_of tables).trains then train_mind tries
    (c.minds (node_number (layout_of tables) (nodes.Train (train t)))) else start_train tries

abbrev pub track_of : Tables → CoreState → ℕ → TrackMind
track_of tables c t =
    if nat_lt t (layout_of tables).trains then track_mind
    (c.minds (node_number (layout_of tables) (nodes.Track (train t)))) else start_track

abbrev pub box_of : Tables → CoreState → ℕ → BoxMind
box_of tables c b =
    if nat_lt b (layout_of tables).boxes then box_mind
    (c.minds (node_number (layout_of tables) (nodes.Box (box b)))) else start_box

-- who holds an arm, of a reservation word that has been read
abbrev pub holder_read : Option ResvWord → ℕ → Option TrainId
holder_read None x = None
holder_read (Some w) x = holder_in w x

-- what each word says. A payload that is no packing stands for nobody, free at left, empty, clear at 0 and quiet at 0;
-- no run of events leaves one
abbrev pub resv_in : Tables → CoreState → ℕ → ℕ → Option TrainId
resv_in tables c b x = holder_read (read_resv (payload_of tables c (words.Resv (box b)))) x

abbrev pub lock_in : Tables → CoreState → ℕ → LockWord
lock_in tables c b = unwrap_or (read_lock (payload_of tables c (words.Lock (box b)))) (Free Left)

abbrev pub mail_in : Tables → CoreState → ℕ → MailWord
mail_in tables c t = unwrap_or (read_mail (payload_of tables c (words.Mail (train t)))) Empty

abbrev pub run_in : Tables → CoreState → ℕ → RunWord
run_in tables c t = unwrap_or (read_run (payload_of tables c (words.Run (train t)))) (Clear 0)

abbrev pub sense_in : Tables → CoreState → ℕ → SenseWord
sense_in tables c t = unwrap_or (read_sense (payload_of tables c (words.Sense (train t)))) (Quiet 0)

-- the state that the words and the minds of the core are
abbrev pub read : Tables → ℕ → CoreState → State
read tables tries c =
    record {
      trains = train_of tables tries c;
      tracks = track_of tables c;
      boxes = box_of tables c;
      resv = resv_in tables c;
      lock = lock_in tables c;
      mail = mail_in tables c;
      run = run_in tables c;
      sense = sense_in tables c;
    }
