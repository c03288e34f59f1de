use Rattle.rl_board.proofs.Lines.{one_text}
use Rattle.rl_board.proofs.laws.one_board_text.Goals as goal

pub returns : goal.returns
returns c = one_text
