use Rattle.cw_core.proofs.cores.Core.access.Given as goal

abbrev pub ghosts-try_access-K-Ledger : goal.ghosts-try_access-K-Ledger
ghosts-try_access-K-Ledger a = record { name = a.blanks.0.name; parts = a.blanks.0.parts }

abbrev pub ghosts-try_access-L-Ledger : goal.ghosts-try_access-L-Ledger
ghosts-try_access-L-Ledger a = record { name = a.blanks.1.name; parts = a.blanks.1.parts }
