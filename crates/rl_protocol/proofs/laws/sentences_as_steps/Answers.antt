use Rattle.std.proofs.Common.{refl, ap}
use Rattle.rl_protocol.specs.Minds.{train, box}
use Rattle.rl_protocol.proofs.Labels.{train_makes, track_makes, machine_makes}
use Rattle.rl_protocol.proofs.BoxLabels.{box_makes}
use Rattle.rl_protocol.proofs.BoxLines.{work_line, asked_line}
use Rattle.rl_protocol.proofs.laws.sentences_as_steps.Goals as goal

pub returns : goal.returns
returns c =
    record {
      trains = λ tables s t table w v mind line there step has. train_makes tables s t table there
          (ap (λ n. train n) (line.trains t table there).number) w v mind step has;
      tracks = λ line s t w v mind step has. track_makes line s t (s.tracks t) w v mind refl step has;
      boxes = λ tables tries s b table w v mind line agrees there step has. box_makes tables s b table line there
          (ap (λ n. box n) (line.boxes b table there).number) tries (s.boxes b) w v mind agrees refl step has;
      machines = λ line s b before after w v step has. machine_makes line s b before after w v step has;
      at_work = λ tables tries s b table w line agrees there at has. work_line tables s b table line there
          (ap (λ n. box n) (line.boxes b table there).number) tries w agrees at has;
      asked = λ tables tries s t l table line agrees there mail ready. asked_line tables s l.to.0 table line there
          (ap (λ n. box n) (line.boxes l.to.0 table there).number) tries t l agrees refl mail ready;
    }
