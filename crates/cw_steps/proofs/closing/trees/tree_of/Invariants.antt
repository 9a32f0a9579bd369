use Rattle.std.specs.Prelude.{List, ◌≡◌, ◌∷◌, ◌++◌}
use Rattle.cw_log.specs.declared.log.Log.{Log}
use Rattle.cw_course.specs.Closings.{put_together}
use Rattle.cw_steps.specs.Leaving.{logs_of_track}
use Rattle.cw_steps.specs.Tracks.{track_of}
use Rattle.cw_steps.proofs.closing.trees.tree_of.Given as goal

-- the tree has the logs before those that are left
abbrev pub invariant-loop-log : goal.invariant-loop-log
invariant-loop-log l =
    (goal.iterator-loop-log).can_next l.log-iterator ×
    (goal.iterator-loop-log).is_finite l.log-iterator ×
    ((front : List Log) × (l.track.joined ≡ front ++ l.log-iterator) × (l.tree ≡ put_together (logs_of_track l.track) 0 ((track_of l.track).own ∷ front)))
