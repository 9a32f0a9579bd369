use Rattle.cw_board.specs.Boards.{columns_of, table_of}
use Rattle.tests_board.proofs.tests.threads.closed.Given as goal

abbrev pub ghosts-counted : goal.ghosts-counted
ghosts-counted g a = record { table = table_of a.made.0; columns = columns_of a.made.0 }
