use Rattle.std.specs.Prelude.{◌≡◌, drop, filter, take}
use Rattle.cw_tree.specs.AccessStacks.{stamps}
use Rattle.cw_tree.specs.Walks.{has}
use Rattle.cw_steps.specs.Beneath.{least_with, reaches_in}
use Rattle.cw_steps.proofs.beneath.with_entries.Given as goal

abbrev pub invariant-loop-node : goal.invariant-loop-node
invariant-loop-node l = l.least ≡ least_with l.fn.found (filter (has (stamps l.entries)) (reaches_in l.writes l.number (take l.node-index l.nodes)))
