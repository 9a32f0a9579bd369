use Rattle.cw_steps.proofs.table.Shared.draw.Given as goal

abbrev pub ghosts-draw_as : goal.ghosts-draw_as
ghosts-draw_as a = record { what = a.what.now; place = a.place; behind = a.behind; second = a.second }
