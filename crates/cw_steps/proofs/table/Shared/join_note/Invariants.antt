use Rattle.cw_steps.proofs.table.Shared.join_note.Given as goal

abbrev pub ghosts-join_as : goal.ghosts-join_as
ghosts-join_as a = record { behind = a.behind; second = a.second }
