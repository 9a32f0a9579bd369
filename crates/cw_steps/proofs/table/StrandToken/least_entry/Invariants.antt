use Rattle.std.specs.Prelude.{◌≡◌, drop, filter, None}
use Rattle.cw_tree.specs.AccessStacks.{stamps}
use Rattle.cw_tree.specs.Walks.{has}
use Rattle.cw_steps.specs.Beneath.{least_with, nodes_beneath, reaches_in}
use Rattle.cw_steps.specs.Stands.{token_of}
use Rattle.cw_steps.proofs.Walked.{nodes_of, rest_beneath}
use Rattle.cw_steps.proofs.table.StrandToken.least_entry.Given as goal

abbrev pub invariant-loop-log : goal.invariant-loop-log
invariant-loop-log l =
    (goal.iterator-loop-log).can_next l.log-iterator ×
    (goal.iterator-loop-log).is_finite l.log-iterator ×
    (least_with l.least (filter (has (stamps l.entries)) (reaches_in l.writes l.number (nodes_of (rest_beneath l.beneath l.self.track.first l.self.track.place l.log-iterator)))) ≡ least_with None (filter (has (stamps l.entries)) (reaches_in l.writes l.number (nodes_beneath (token_of l.self)))))
