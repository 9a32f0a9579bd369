use Rattle.tests_board.proofs.tests.led.asks.Given as goal

abbrev pub ghosts-asks_counted-K-Ledger : goal.ghosts-asks_counted-K-Ledger
ghosts-asks_counted-K-Ledger a = record { name = a.blanks.0.name; parts = a.blanks.0.parts }

abbrev pub ghosts-asks_counted-L-Ledger : goal.ghosts-asks_counted-L-Ledger
ghosts-asks_counted-L-Ledger a = record { name = a.blanks.1.name; parts = a.blanks.1.parts }
