use Rattle.tests_core.proofs.tests.traces.calls_of_a_tier.Given as goal

abbrev pub ghosts-tell_all : goal.ghosts-tell_all
ghosts-tell_all g a = record { name = a.blank.name; parts = a.blank.parts }
