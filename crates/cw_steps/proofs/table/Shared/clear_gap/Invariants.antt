use Rattle.cw_steps.proofs.table.Shared.clear_gap.Given as goal

abbrev pub ghosts-mark_as : goal.ghosts-mark_as
ghosts-mark_as a = record { gap = a.gap; place = a.place }
