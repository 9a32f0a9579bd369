use Rattle.cw_pool.proofs.works.work_whole.Given as goal

abbrev pub ghosts-work_named-J-RunName : goal.ghosts-work_named-J-RunName
ghosts-work_named-J-RunName g a = record { job = record { program = a.program.now; words = a.words.now; limits = a.limits } }

abbrev pub ghosts-work_named-J-TableName : goal.ghosts-work_named-J-TableName
ghosts-work_named-J-TableName g a = record { table = a.opened }
