use Rattle.rl_outside.proofs.dir_files.DirFilesFiles.fetch.Goals as goal

pub returns-clause-others : goal.returns-clause-others
returns-clause-others g c = rw (← c.self.view_is) c.noted.ensures.others
