use Rattle.std.specs.Prelude.{◌≡◌}
use Rattle.cw_steps.specs.Beneath.{logs_beneath}
use Rattle.cw_steps.proofs.table.StrandToken.has_logs_beneath.Given as goal

abbrev pub invariant-loop-log : goal.invariant-loop-log
invariant-loop-log l =
    (goal.iterator-loop-log).can_next l.log-iterator ×
    (goal.iterator-loop-log).is_finite l.log-iterator ×
    (logs_beneath l.self.track.first l.self.track.place l.log-iterator ≡ logs_beneath l.self.track.first l.self.track.place l.self.track.joined)
