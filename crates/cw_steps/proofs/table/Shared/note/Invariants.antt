use Rattle.cw_steps.proofs.table.Shared.note.Given as goal

abbrev pub ghosts-part_as : goal.ghosts-part_as
ghosts-part_as a = record { take_back = a.take_back; behind = a.behind; second = a.second }
