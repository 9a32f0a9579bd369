use Rattle.cw_steps.specs.Places.{version_word}
use Rattle.cw_steps.proofs.table.Shared.version_even.Given as goal

abbrev pub ghosts-make_even_as : goal.ghosts-make_even_as
ghosts-make_even_as a = record { word = version_word a.cells }
