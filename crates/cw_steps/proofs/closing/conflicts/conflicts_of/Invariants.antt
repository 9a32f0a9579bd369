use Rattle.std.specs.Prelude.{List, ◌≡◌, ◌∷◌, ◌++◌}
use Rattle.cw_log.specs.declared.log.Log.{Log}
use Rattle.cw_course.specs.Closings.{conflicts_of}
use Rattle.cw_steps.specs.Leaving.{logs_of_track}
use Rattle.cw_steps.specs.Tracks.{track_of}
use Rattle.cw_steps.proofs.closing.conflicts.conflicts_of.Given as goal

-- the list has those of the logs before those that are left
abbrev pub invariant-loop-log : goal.invariant-loop-log
invariant-loop-log l =
    (goal.iterator-loop-log).can_next l.log-iterator ×
    (goal.iterator-loop-log).is_finite l.log-iterator ×
    ((front : List Log) × (l.track.joined ≡ front ++ l.log-iterator) × (l.list.items ≡ conflicts_of (logs_of_track l.track) ((track_of l.track).own ∷ front)))
