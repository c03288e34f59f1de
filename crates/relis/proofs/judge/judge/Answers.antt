use Rattle.relis.proofs.judge.judge.Goals as goal

pub returns-in-Err-check-clause-refused : goal.returns-in-Err-check-clause-refused
returns-in-Err-check-clause-refused c =
    c.of_network.ensures c.args.text.now c.in-Ok.draft c.in-Ok.ensures.meaning c.in-Err-check.ensures.refused
