use Rattle.cw_steps.proofs.table.Shared.take.Given as goal

abbrev pub ghosts-take_as : goal.ghosts-take_as
ghosts-take_as a = record { key = a.table.now.key; slot = a.slot; aim = a.aim; place = a.place }
