-- A ready box has a step on the mailbox in which it is asked: the arms of the letter are the box's.
use Rattle.std.proofs.Common.{◌≡◌, ℕ, true, refl}
use Rattle.std.proofs.lemmas.Bool.{and_from}
use Rattle.rl_base.specs.declared.layout.NodeKind.TheVariants as nodes
use Rattle.rl_base.specs.declared.layout.WordKind.TheVariants as words
use Rattle.rl_words.specs.declared.mail.Letter.{Letter}
use Rattle.rl_words.specs.declared.mail.MailWord.TheVariants.{Ask}
use Rattle.rl_box.specs.declared.mind.Work.TheVariants.{Ready}
use Rattle.rl_protocol.specs.Agreement.{Agrees}
use Rattle.rl_protocol.specs.AtWork.{HasStep}
use Rattle.rl_protocol.specs.Line.{Line, IsConsistent}
use Rattle.rl_protocol.specs.Minds.{train, box, row_of, names_arms}
use Rattle.rl_protocol.specs.State.{State}
use Rattle.rl_protocol.specs.Steps.{take}
use Rattle.rl_protocol.proofs.Known.{asked}
use Rattle.rl_protocol.proofs.Letters.{row_arms, letter_arm, letter_second}
use Rattle.rl_protocol.proofs.Paths.{waiting_within}

pub asked_steps : (line : Line) (tries : ℕ) (s : State) (t : ℕ) (l : Letter) → IsConsistent line → Agrees line tries s → s.mail t ≡ Ask l
    → (s.boxes l.to.0).work ≡ Ready → HasStep line s (nodes.Box (box l.to.0)) (words.Mail (train t))
asked_steps line tries s t l laws agrees mail ready =
    let waits = asked line s t l agrees.mailboxes (λ u. (agrees.attempts u).ahead) mail in
    let arms = row_arms line t (s.trains t).step laws (waiting_within line tries s t agrees waits.waits) in
    let row = row_of line t (s.trains t) in
    let named : names_arms line l ≡ true =
    and_from _ _ (letter_arm line row (s.trains t).job l arms waits.letter) (letter_second line row (s.trains t).job l laws arms waits.letter) in
    record { step = take l.to.0 t l; fits = (ready, mail, refl, named); by_node = refl; on_word = refl }
