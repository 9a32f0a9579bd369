use Rattle.cw_board.proofs.board.Board.judge.Given as goal

abbrev pub ghosts-judge_counted-K-Ledger : goal.ghosts-judge_counted-K-Ledger
ghosts-judge_counted-K-Ledger a = record { name = a.blanks.0.name; parts = a.blanks.0.parts }

abbrev pub ghosts-judge_counted-L-Ledger : goal.ghosts-judge_counted-L-Ledger
ghosts-judge_counted-L-Ledger a = record { name = a.blanks.1.name; parts = a.blanks.1.parts }
