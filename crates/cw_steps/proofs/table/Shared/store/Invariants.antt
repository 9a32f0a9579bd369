use Rattle.cw_steps.specs.Places.{word_of_place}
use Rattle.cw_steps.proofs.table.Shared.store.Given as goal

abbrev pub ghosts-store_as : goal.ghosts-store_as
ghosts-store_as a = record { word = word_of_place a.cells a.columns a.at; value = a.value }
