use Rattle.rl_words.proofs.LetterLemmas.{same_letter-true, same_letter_itself}
use Rattle.rl_words.proofs.laws.letters.Goals as goal

pub returns : goal.returns
returns c = record { same = same_letter-true; itself = same_letter_itself }
