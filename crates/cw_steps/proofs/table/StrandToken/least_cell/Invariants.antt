use Rattle.std.specs.Prelude.{◌≡◌, filter, nat_le, None}
use Rattle.cw_steps.specs.Beneath.{nodes_beneath, cells_reached, least_with}
use Rattle.cw_steps.specs.Stands.{token_of}
use Rattle.cw_steps.proofs.Walked.{nodes_of, rest_beneath}
use Rattle.cw_steps.proofs.table.StrandToken.least_cell.Given as goal

abbrev pub invariant-loop-log : goal.invariant-loop-log
invariant-loop-log l =
    (goal.iterator-loop-log).can_next l.log-iterator ×
    (goal.iterator-loop-log).is_finite l.log-iterator ×
    (least_with l.least (filter (nat_le l.from) (cells_reached l.writes (nodes_of (rest_beneath l.beneath l.self.track.first l.self.track.place l.log-iterator)))) ≡ least_with None (filter (nat_le l.from) (cells_reached l.writes (nodes_beneath (token_of l.self)))))
