use Rattle.tests_core.proofs.tests.queries.verdicts_at.Given as goal

abbrev pub ghosts-verdicts-K-Ledger : goal.ghosts-verdicts-K-Ledger
ghosts-verdicts-K-Ledger a = record { name = a.blanks.0.name; parts = a.blanks.0.parts }

abbrev pub ghosts-verdicts-L-Ledger : goal.ghosts-verdicts-L-Ledger
ghosts-verdicts-L-Ledger a = record { name = a.blanks.1.name; parts = a.blanks.1.parts }
