use Rattle.cw_board.specs.Boards.{columns_of, table_of}
use Rattle.tests_board.proofs.tests.threads.has_asked_rightly.Given as goal

abbrev pub ghosts-has_asked : goal.ghosts-has_asked
ghosts-has_asked g a = record { table = table_of a.made.0; columns = columns_of a.made.0 }
