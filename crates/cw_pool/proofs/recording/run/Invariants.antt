use Rattle.cw_board.specs.Boards.{columns_of, table_of}
use Rattle.cw_pool.proofs.recording.run.Given as goal

abbrev pub ghosts-run_named : goal.ghosts-run_named
ghosts-run_named g a = record { table = table_of a.board; columns = columns_of a.board }
