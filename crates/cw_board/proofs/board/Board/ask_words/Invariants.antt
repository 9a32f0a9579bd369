use Rattle.std.proofs.Common.{Some}
use Rattle.cw_board.specs.Boards.{cells_in, columns_of}
use Rattle.cw_board.proofs.board.Board.ask_words.Given as goal

abbrev pub ghosts-ask_with : goal.ghosts-ask_with
ghosts-ask_with g a = record { question = Some (record { token = a.reader.now.token; cells = cells_in a.reader.now.board.now; columns = columns_of a.reader.now.board.now }) }
