use Rattle.tests_core.proofs.tests.queries.a_verdict_whatever_is_told.Given as goal

abbrev pub ghosts-ask_fickle-K-Ledger : goal.ghosts-ask_fickle-K-Ledger
ghosts-ask_fickle-K-Ledger g a = record { name = a.blanks.0.name; parts = a.blanks.0.parts }

abbrev pub ghosts-ask_fickle-L-Ledger : goal.ghosts-ask_fickle-L-Ledger
ghosts-ask_fickle-L-Ledger g a = record { name = a.blanks.1.name; parts = a.blanks.1.parts }
