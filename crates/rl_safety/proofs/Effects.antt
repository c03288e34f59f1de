-- The state after an event: the one before with the mind of its node and the value of its word new.
use Rattle.std.proofs.Common.{◌≡◌, ℕ, Option, Some, refl, ap, ◌∙◌}
use Rattle.rl_base.specs.declared.ids.TrainId.{TrainId}
use Rattle.rl_base.specs.declared.layout.NodeKind.{NodeKind}
use Rattle.rl_base.specs.declared.layout.NodeKind.TheVariants as nodes
use Rattle.rl_base.specs.declared.layout.WordKind.TheVariants as kinds
use Rattle.rl_record.specs.declared.event.Event.{Event}
use Rattle.rl_words.specs.declared.lock.LockWord.{LockWord}
use Rattle.rl_words.specs.declared.mail.MailWord.{MailWord}
use Rattle.rl_words.specs.declared.run.RunWord.{RunWord}
use Rattle.rl_words.specs.declared.sense.SenseWord.{SenseWord}
use Rattle.rl_words.specs.Readings.{read_resv, read_lock, read_mail, read_run, read_sense}
use Rattle.rl_words.specs.Word.{Word, kind_of, read_word}
use Rattle.rl_words.specs.Word.Word.{Resv, Lock, Mail, Run, Sense}
use Rattle.rl_tables.specs.declared.table.Tables.{Tables}
use Rattle.rl_train.specs.declared.mind.TrainMind.{TrainMind}
use Rattle.rl_box.specs.declared.mind.BoxMind.{BoxMind}
use Rattle.rl_track.specs.declared.track.TrackMind.{TrackMind}
use Rattle.rl_steps.specs.declared.mind.Mind.{Mind}
use Rattle.rl_steps.specs.declared.mind.Mind.TheVariants.{Train, Track, Box, Machine}
use Rattle.rl_steps.specs.Sound.{IsMindOf}
use Rattle.rl_steps.specs.State.{CoreState, after}
use Rattle.rl_steps.proofs.Options.{from_map}
use Rattle.rl_protocol.specs.State.{State}
use Rattle.rl_safety.specs.Reading.{read, resv_in, lock_in, mail_in, run_in, sense_in, train_of, track_of, box_of}
use Rattle.rl_protocol.specs.Sentences.{with_word}
use Rattle.rl_safety.proofs.Labels.{with_mind}
use Rattle.rl_safety.proofs.Minds.{IsBy, trains_kept, trains_new, tracks_kept, tracks_new, boxes_kept, boxes_new}
use Rattle.rl_safety.proofs.Words.{IsOn, locks_kept, locks_new, mails_kept, mails_new, runs_kept, runs_new, senses_kept, senses_new, resvs_kept, resvs_new}

-- the new minds
record HasMinds (tables : Tables) (tries : ℕ) (c : CoreState) (e : Event) (s : State) : Type 0 where
  pub trains : train_of tables tries (after tables c e) ≡ s.trains
  pub tracks : track_of tables (after tables c e) ≡ s.tracks
  pub boxes : box_of tables (after tables c e) ≡ s.boxes

minds_after : (tables : Tables) (tries : ℕ) (c : CoreState) (e : Event) (node : NodeKind) (mind : Mind) → IsBy tables c e node mind
    → IsMindOf tables node mind → HasMinds tables tries c e (with_mind (read tables tries c) node mind)
minds_after tables tries c e (nodes.Train t) (Train m) by is =
    record {
      trains = trains_new tables tries c e t m by;
      tracks = tracks_kept tables c e (nodes.Train t) (Train m) by (λ u same. cc);
      boxes = boxes_kept tables c e (nodes.Train t) (Train m) by (λ b same. cc);
    }
minds_after tables tries c e (nodes.Train t) (Track m) by is = absurd is
minds_after tables tries c e (nodes.Train t) (Box m) by is = absurd is
minds_after tables tries c e (nodes.Train t) (Machine m) by is = absurd is
minds_after tables tries c e (nodes.Track t) (Train m) by is = absurd is
minds_after tables tries c e (nodes.Track t) (Track m) by is =
    record {
      trains = trains_kept tables tries c e (nodes.Track t) (Track m) by (λ u same. cc);
      tracks = tracks_new tables c e t m by;
      boxes = boxes_kept tables c e (nodes.Track t) (Track m) by (λ b same. cc);
    }
minds_after tables tries c e (nodes.Track t) (Box m) by is = absurd is
minds_after tables tries c e (nodes.Track t) (Machine m) by is = absurd is
minds_after tables tries c e (nodes.Box b) (Train m) by is = absurd is
minds_after tables tries c e (nodes.Box b) (Track m) by is = absurd is
minds_after tables tries c e (nodes.Box b) (Box m) by is =
    record {
      trains = trains_kept tables tries c e (nodes.Box b) (Box m) by (λ u same. cc);
      tracks = tracks_kept tables c e (nodes.Box b) (Box m) by (λ u same. cc);
      boxes = boxes_new tables c e b m by;
    }
minds_after tables tries c e (nodes.Box b) (Machine m) by is = absurd is
minds_after tables tries c e (nodes.Machine b) (Train m) by is = absurd is
minds_after tables tries c e (nodes.Machine b) (Track m) by is = absurd is
minds_after tables tries c e (nodes.Machine b) (Box m) by is = absurd is
minds_after tables tries c e (nodes.Machine b) (Machine m) by is =
    record {
      trains = trains_kept tables tries c e (nodes.Machine b) (Machine m) by (λ u same. cc);
      tracks = tracks_kept tables c e (nodes.Machine b) (Machine m) by (λ u same. cc);
      boxes = boxes_kept tables c e (nodes.Machine b) (Machine m) by (λ u same. cc);
    }

-- the new words; s has the words as they were
record HasWords (tables : Tables) (c : CoreState) (e : Event) (s : State) : Type 0 where
  pub resv : resv_in tables (after tables c e) ≡ s.resv
  pub lock : lock_in tables (after tables c e) ≡ s.lock
  pub mail : mail_in tables (after tables c e) ≡ s.mail
  pub run : run_in tables (after tables c e) ≡ s.run
  pub sense : sense_in tables (after tables c e) ≡ s.sense

record IsRead (tables : Tables) (c : CoreState) (s : State) : Type 0 where
  pub resv : resv_in tables c ≡ s.resv
  pub lock : lock_in tables c ≡ s.lock
  pub mail : mail_in tables c ≡ s.mail
  pub run : run_in tables c ≡ s.run
  pub sense : sense_in tables c ≡ s.sense

words_after : (tables : Tables) (c : CoreState) (e : Event) (new : ℕ) (left : Word) (s : State) → IsRead tables c s
    → IsOn tables c e (kind_of left) new → read_word (kind_of left) new ≡ Some left → HasWords tables c e (with_word s left)
words_after tables c e new (Resv b w) s was on reads =
    let got = from_map (Resv b) (read_resv new) (Resv b w) reads in
    let same : got.0 ≡ w = cc (got.2) in
    let is : read_resv new ≡ Some w = got.1 ∙ ap Some same in
    record {
      resv = resvs_new tables c e b w new on is ∙ rw was.resv refl;
      lock = locks_kept tables c e (kinds.Resv b) new on (λ u eq. cc) ∙ was.lock;
      mail = mails_kept tables c e (kinds.Resv b) new on (λ u eq. cc) ∙ was.mail;
      run = runs_kept tables c e (kinds.Resv b) new on (λ u eq. cc) ∙ was.run;
      sense = senses_kept tables c e (kinds.Resv b) new on (λ u eq. cc) ∙ was.sense;
    }
words_after tables c e new (Lock b v) s was on reads =
    let got = from_map (Lock b) (read_lock new) (Lock b v) reads in
    let same : got.0 ≡ v = cc (got.2) in
    let is : read_lock new ≡ Some v = got.1 ∙ ap Some same in
    record {
      resv = resvs_kept tables c e (kinds.Lock b) new on (λ u eq. cc) ∙ was.resv;
      lock = locks_new tables c e b v new on is ∙ rw was.lock refl;
      mail = mails_kept tables c e (kinds.Lock b) new on (λ u eq. cc) ∙ was.mail;
      run = runs_kept tables c e (kinds.Lock b) new on (λ u eq. cc) ∙ was.run;
      sense = senses_kept tables c e (kinds.Lock b) new on (λ u eq. cc) ∙ was.sense;
    }
words_after tables c e new (Mail t v) s was on reads =
    let got = from_map (Mail t) (read_mail new) (Mail t v) reads in
    let same : got.0 ≡ v = cc (got.2) in
    let is : read_mail new ≡ Some v = got.1 ∙ ap Some same in
    record {
      resv = resvs_kept tables c e (kinds.Mail t) new on (λ u eq. cc) ∙ was.resv;
      lock = locks_kept tables c e (kinds.Mail t) new on (λ u eq. cc) ∙ was.lock;
      mail = mails_new tables c e t v new on is ∙ rw was.mail refl;
      run = runs_kept tables c e (kinds.Mail t) new on (λ u eq. cc) ∙ was.run;
      sense = senses_kept tables c e (kinds.Mail t) new on (λ u eq. cc) ∙ was.sense;
    }
words_after tables c e new (Run t v) s was on reads =
    let got = from_map (Run t) (read_run new) (Run t v) reads in
    let same : got.0 ≡ v = cc (got.2) in
    let is : read_run new ≡ Some v = got.1 ∙ ap Some same in
    record {
      resv = resvs_kept tables c e (kinds.Run t) new on (λ u eq. cc) ∙ was.resv;
      lock = locks_kept tables c e (kinds.Run t) new on (λ u eq. cc) ∙ was.lock;
      mail = mails_kept tables c e (kinds.Run t) new on (λ u eq. cc) ∙ was.mail;
      run = runs_new tables c e t v new on is ∙ rw was.run refl;
      sense = senses_kept tables c e (kinds.Run t) new on (λ u eq. cc) ∙ was.sense;
    }
words_after tables c e new (Sense t v) s was on reads =
    let got = from_map (Sense t) (read_sense new) (Sense t v) reads in
    let same : got.0 ≡ v = cc (got.2) in
    let is : read_sense new ≡ Some v = got.1 ∙ ap Some same in
    record {
      resv = resvs_kept tables c e (kinds.Sense t) new on (λ u eq. cc) ∙ was.resv;
      lock = locks_kept tables c e (kinds.Sense t) new on (λ u eq. cc) ∙ was.lock;
      mail = mails_kept tables c e (kinds.Sense t) new on (λ u eq. cc) ∙ was.mail;
      run = runs_kept tables c e (kinds.Sense t) new on (λ u eq. cc) ∙ was.run;
      sense = senses_new tables c e t v new on is ∙ rw was.sense refl;
    }

-- a new mind leaves the words, and a new word the minds
mind_leaves : (tables : Tables) (tries : ℕ) (c : CoreState) (node : NodeKind) (mind : Mind) → IsMindOf tables node mind
    → IsRead tables c (with_mind (read tables tries c) node mind)
mind_leaves tables tries c (nodes.Train t) (Train m) is = record { resv = refl; lock = refl; mail = refl; run = refl; sense = refl }
mind_leaves tables tries c (nodes.Train t) (Track m) is = absurd is
mind_leaves tables tries c (nodes.Train t) (Box m) is = absurd is
mind_leaves tables tries c (nodes.Train t) (Machine m) is = absurd is
mind_leaves tables tries c (nodes.Track t) (Train m) is = absurd is
mind_leaves tables tries c (nodes.Track t) (Track m) is = record { resv = refl; lock = refl; mail = refl; run = refl; sense = refl }
mind_leaves tables tries c (nodes.Track t) (Box m) is = absurd is
mind_leaves tables tries c (nodes.Track t) (Machine m) is = absurd is
mind_leaves tables tries c (nodes.Box b) (Train m) is = absurd is
mind_leaves tables tries c (nodes.Box b) (Track m) is = absurd is
mind_leaves tables tries c (nodes.Box b) (Box m) is = record { resv = refl; lock = refl; mail = refl; run = refl; sense = refl }
mind_leaves tables tries c (nodes.Box b) (Machine m) is = absurd is
mind_leaves tables tries c (nodes.Machine b) (Train m) is = absurd is
mind_leaves tables tries c (nodes.Machine b) (Track m) is = absurd is
mind_leaves tables tries c (nodes.Machine b) (Box m) is = absurd is
mind_leaves tables tries c (nodes.Machine b) (Machine m) is = record { resv = refl; lock = refl; mail = refl; run = refl; sense = refl }

word_leaves_trains : (s : State) (left : Word) → s.trains ≡ (with_word s left).trains
word_leaves_trains s (Resv b w) = refl
word_leaves_trains s (Lock b v) = refl
word_leaves_trains s (Mail t v) = refl
word_leaves_trains s (Run t v) = refl
word_leaves_trains s (Sense t v) = refl

word_leaves_tracks : (s : State) (left : Word) → s.tracks ≡ (with_word s left).tracks
word_leaves_tracks s (Resv b w) = refl
word_leaves_tracks s (Lock b v) = refl
word_leaves_tracks s (Mail t v) = refl
word_leaves_tracks s (Run t v) = refl
word_leaves_tracks s (Sense t v) = refl

word_leaves_boxes : (s : State) (left : Word) → s.boxes ≡ (with_word s left).boxes
word_leaves_boxes s (Resv b w) = refl
word_leaves_boxes s (Lock b v) = refl
word_leaves_boxes s (Mail t v) = refl
word_leaves_boxes s (Run t v) = refl
word_leaves_boxes s (Sense t v) = refl

-- states are equal whose parts are
pub same_state : (a b : State) → a.trains ≡ b.trains → a.tracks ≡ b.tracks → a.boxes ≡ b.boxes → a.resv ≡ b.resv → a.lock ≡ b.lock → a.mail ≡ b.mail
    → a.run ≡ b.run → a.sense ≡ b.sense → a ≡ b
same_state a b e1 e2 e3 e4 e5 e6 e7 e8 =
    let build =
    λ (t : ℕ → TrainMind) (k : ℕ → TrackMind) (x : ℕ → BoxMind) (r : ℕ → ℕ → Option TrainId) (l : ℕ → LockWord) (m : ℕ → MailWord) (u : ℕ → RunWord)
    (v : ℕ → SenseWord).
    let made : State = record { trains = t; tracks = k; boxes = x; resv = r; lock = l; mail = m; run = u; sense = v } in made in
    let p1 : a ≡ build b.trains a.tracks a.boxes a.resv a.lock a.mail a.run a.sense =
    ap (λ t. build t a.tracks a.boxes a.resv a.lock a.mail a.run a.sense) e1 in
    let p2 : build b.trains a.tracks a.boxes a.resv a.lock a.mail a.run a.sense ≡ build b.trains b.tracks a.boxes a.resv a.lock a.mail a.run a.sense =
    ap (λ k. build b.trains k a.boxes a.resv a.lock a.mail a.run a.sense) e2 in
    let p3 : build b.trains b.tracks a.boxes a.resv a.lock a.mail a.run a.sense ≡ build b.trains b.tracks b.boxes a.resv a.lock a.mail a.run a.sense =
    ap (λ x. build b.trains b.tracks x a.resv a.lock a.mail a.run a.sense) e3 in
    let p4 : build b.trains b.tracks b.boxes a.resv a.lock a.mail a.run a.sense ≡ build b.trains b.tracks b.boxes b.resv a.lock a.mail a.run a.sense =
    ap (λ r. build b.trains b.tracks b.boxes r a.lock a.mail a.run a.sense) e4 in
    let p5 : build b.trains b.tracks b.boxes b.resv a.lock a.mail a.run a.sense ≡ build b.trains b.tracks b.boxes b.resv b.lock a.mail a.run a.sense =
    ap (λ l. build b.trains b.tracks b.boxes b.resv l a.mail a.run a.sense) e5 in
    let p6 : build b.trains b.tracks b.boxes b.resv b.lock a.mail a.run a.sense ≡ build b.trains b.tracks b.boxes b.resv b.lock b.mail a.run a.sense =
    ap (λ m. build b.trains b.tracks b.boxes b.resv b.lock m a.run a.sense) e6 in
    let p7 : build b.trains b.tracks b.boxes b.resv b.lock b.mail a.run a.sense ≡ build b.trains b.tracks b.boxes b.resv b.lock b.mail b.run a.sense =
    ap (λ u. build b.trains b.tracks b.boxes b.resv b.lock b.mail u a.sense) e7 in
    let p8 : build b.trains b.tracks b.boxes b.resv b.lock b.mail b.run a.sense ≡ b =
    ap (λ v. build b.trains b.tracks b.boxes b.resv b.lock b.mail b.run v) e8 in
    p1 ∙ (p2 ∙ (p3 ∙ (p4 ∙ (p5 ∙ (p6 ∙ (p7 ∙ p8))))))

pub state_after : (tables : Tables) (tries : ℕ) (c : CoreState) (e : Event) (node : NodeKind) (mind : Mind) (new : ℕ) (left : Word)
    → IsBy tables c e node mind → IsMindOf tables node mind → IsOn tables c e (kind_of left) new → read_word (kind_of left) new ≡ Some left
    → read tables tries (after tables c e) ≡ with_word (with_mind (read tables tries c) node mind) left
state_after tables tries c e node mind new left by is on reads =
    let s : State = with_mind (read tables tries c) node mind in
    let minds = minds_after tables tries c e node mind by is in
    let words = words_after tables c e new left (with_mind (read tables tries c) node mind) (mind_leaves tables tries c node mind is) on reads in
    same_state (read tables tries (after tables c e)) (with_word (with_mind (read tables tries c) node mind) left)
    (minds.trains ∙ word_leaves_trains (with_mind (read tables tries c) node mind) left)
    (minds.tracks ∙ word_leaves_tracks (with_mind (read tables tries c) node mind) left)
    (minds.boxes ∙ word_leaves_boxes (with_mind (read tables tries c) node mind) left)
    words.resv words.lock words.mail words.run words.sense
