use Rattle.tests_core.proofs.tests.queries.verdicts_of_a_tier.Given as goal

abbrev pub ghosts-answers-K-Ledger : goal.ghosts-answers-K-Ledger
ghosts-answers-K-Ledger g a = record { name = a.blanks.0.name; parts = a.blanks.0.parts }

abbrev pub ghosts-answers-L-Ledger : goal.ghosts-answers-L-Ledger
ghosts-answers-L-Ledger g a = record { name = a.blanks.1.name; parts = a.blanks.1.parts }
