use Rattle.tests_log.proofs.crossing.there_and_back.Given as goal

abbrev pub ghosts-crosses : goal.ghosts-crosses
ghosts-crosses g a = record { table = a.opened }
