use Rattle.std.specs.Prelude.{List, ◌≡◌, ◌++◌, All}
use Rattle.cw_log.specs.declared.log.Log.{Log}
use Rattle.tests_log.specs.Kept.{HasNoVictim}
use Rattle.tests_log.proofs.conditions.have_victim.Given as goal

-- none is a victim in the logs before those that are left
abbrev pub invariant-loop-log : goal.invariant-loop-log
invariant-loop-log l =
    (goal.iterator-loop-log).can_next l.log-iterator ×
    (goal.iterator-loop-log).is_finite l.log-iterator ×
    ((front : List Log) × (l.logs ≡ front ++ l.log-iterator) × All (λ x. HasNoVictim x.conflicts l.begin) front)
