use Rattle.cw_steps.proofs.table.Shared.stop.Given as goal

abbrev pub ghosts-halt_as : goal.ghosts-halt_as
ghosts-halt_as a = record { halt = a.halt; place = a.place }
