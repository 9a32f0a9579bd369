use Rattle.cw_steps.proofs.table.Shared.give.Given as goal

abbrev pub ghosts-give_as : goal.ghosts-give_as
ghosts-give_as a = record { home = a.home.now; place = a.place }
