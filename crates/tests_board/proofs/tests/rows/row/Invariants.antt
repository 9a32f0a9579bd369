use Rattle.cw_board.specs.Boards.{columns_of, table_of}
use Rattle.tests_board.proofs.tests.rows.row.Given as goal

abbrev pub ghosts-played : goal.ghosts-played
ghosts-played g a = record { table = table_of a.made.0; columns = columns_of a.made.0 }
