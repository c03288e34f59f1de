use Rattle.rl_outside.proofs.mem_files.MemFilesFiles.fetch.Goals as goal

pub returns-clause-others : goal.returns-clause-others
returns-clause-others c = rw (← c.self.view_is) c.noted.ensures.others
