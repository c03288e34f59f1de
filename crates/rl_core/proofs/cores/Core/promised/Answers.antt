use Rattle.rl_core.proofs.cores.Core.promised.Goals as goal

pub returns : goal.returns
returns c = λ d leads.
    c.promises_of_runs.ensures c.args.self.now.line c.args.self.now.tries d.events c.reached.ensures.line c.reached.ensures.few_tries leads.run
