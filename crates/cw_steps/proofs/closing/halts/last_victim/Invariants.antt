use Rattle.std.specs.Prelude.{List, ◌≡◌, ◌∷◌, ◌++◌}
use Rattle.cw_log.specs.declared.log.Log.{Log}
use Rattle.cw_course.specs.Closings.{HasNone}
use Rattle.cw_steps.specs.Tracks.{track_of}
use Rattle.cw_steps.proofs.closing.halts.last_victim.Given as goal

-- the logs before those that are left have other columns
abbrev pub invariant-loop-log : goal.invariant-loop-log
invariant-loop-log l =
    (goal.iterator-loop-log).can_next l.log-iterator ×
    (goal.iterator-loop-log).is_finite l.log-iterator ×
    ((front : List Log) × (l.track.joined ≡ front ++ l.log-iterator) × HasNone l.column ((track_of l.track).own ∷ front))
