-- What is so at the start: who holds which segment, and what each word says.
use Rattle.std.specs.Prelude.{ℕ, ◌==◌, length, slice_get, find, Option, Some, None, option_map}
use Rattle.std.specs.Option.{option_map_or}
use Rattle.rl_base.specs.declared.ids.SegId.{SegId}
use Rattle.rl_base.specs.declared.ids.TrainId.{TrainId}
use Rattle.rl_base.specs.declared.layout.Layout.{Layout}
use Rattle.rl_base.specs.declared.layout.WordKind.{WordKind}
use Rattle.rl_base.specs.declared.layout.WordKind.TheVariants as words
use Rattle.rl_words.specs.declared.resv.ResvWord.{ResvWord}
use Rattle.rl_words.specs.declared.lock.LockWord.{LockWord}
use Rattle.rl_words.specs.declared.lock.LockWord.TheVariants.{Free}
use Rattle.rl_words.specs.declared.mail.MailWord.TheVariants.{Empty}
use Rattle.rl_words.specs.declared.run.RunWord.TheVariants.{Clear}
use Rattle.rl_words.specs.declared.sense.SenseWord.TheVariants.{Quiet}
use Rattle.rl_words.specs.Resv.{packed_resv}
use Rattle.rl_words.specs.Lock.{packed_lock}
use Rattle.rl_words.specs.Mail.{packed_mail}
use Rattle.rl_words.specs.Run.{packed_run}
use Rattle.rl_words.specs.Sense.{packed_sense}
use Rattle.rl_tables.specs.declared.table.BoxTable.{BoxTable}
use Rattle.rl_tables.specs.declared.table.TrainTable.{TrainTable}
use Rattle.rl_tables.specs.declared.table.Tables.{Tables}

-- how many boxes and trains there are
abbrev pub layout_of : Tables → Layout
layout_of tables = record { boxes = length tables.boxes; trains = length tables.trains }

-- the train that starts on segment s, and so holds it at both its ends
abbrev pub starter_of : Tables → ℕ → Option TrainId
starter_of tables s =
    option_map (λ (x : TrainTable). x.number) (find (λ (x : TrainTable). x.first.0 == s) tables.trains)

-- who holds an arm: the train that starts on the segment there
abbrev pub arm_holder : Tables → Option SegId → Option TrainId
arm_holder tables (Some s) = starter_of tables s.0
arm_holder tables None = None

-- the reservations of a box
abbrev pub start_resv : Tables → BoxTable → ResvWord
start_resv tables x =
    record {
      arm0 = arm_holder tables x.seg0;
      arm1 = arm_holder tables x.seg1;
      arm2 = arm_holder tables x.seg2;
      arm3 = arm_holder tables x.seg3;
    }

-- its lock is free, and it stands at its side
abbrev pub start_lock : BoxTable → LockWord
start_lock x = Free x.side

-- the number of each word at the start
abbrev pub start_payload : Tables → WordKind → ℕ
start_payload tables words.Still = 0
start_payload tables (words.Resv b) =
    option_map_or (λ x. packed_resv (start_resv tables x)) (slice_get tables.boxes b.0) 0
start_payload tables (words.Lock b) = option_map_or (λ x. packed_lock (start_lock x)) (slice_get tables.boxes b.0) 0
start_payload tables (words.Mail t) = packed_mail Empty
start_payload tables (words.Run t) = packed_run (Clear 0)
start_payload tables (words.Sense t) = packed_sense (Quiet 0)
