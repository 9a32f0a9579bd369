use Rattle.std.specs.Prelude.{List, ◌≡◌, ◌∷◌, ◌++◌}
use Rattle.cw_log.specs.declared.log.Log.{Log}
use Rattle.cw_steps.specs.Leaving.{HasBases}
use Rattle.cw_steps.specs.Tracks.{track_of}
use Rattle.cw_steps.proofs.closing.bases.bases_of.Given as goal

-- the table has the logs before those that are left
abbrev pub invariant-loop-log : goal.invariant-loop-log
invariant-loop-log l =
    (goal.iterator-loop-log).can_next l.log-iterator ×
    (goal.iterator-loop-log).is_finite l.log-iterator ×
    ((front : List Log) × (l.track.joined ≡ front ++ l.log-iterator) × HasBases l.bases ((track_of l.track).own ∷ front))
