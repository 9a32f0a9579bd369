use Rattle.cw_steps.specs.Places.{version_word}
use Rattle.cw_steps.proofs.table.Shared.version_odd.Given as goal

abbrev pub ghosts-make_odd_as : goal.ghosts-make_odd_as
ghosts-make_odd_as a = record { word = version_word a.cells; come = a.come.now }
