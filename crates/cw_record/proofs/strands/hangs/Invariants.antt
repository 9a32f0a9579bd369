use Rattle.std.proofs.Common.{◌≡◌, ◌-◌, ◌<◌, length, true}
use Rattle.cw_tree.specs.Walks.{is_ancestor}
use Rattle.cw_record.proofs.strands.hangs.Given as goal

-- this node is n - 1, or stands above it
abbrev pub invariant-loop-at : goal.invariant-loop-at
invariant-loop-at l = record { there : l.at < length l.tree; over : is_ancestor l.tree l.at (l.n - 1) ≡ true }

abbrev pub decreases-loop-at : goal.decreases-loop-at
decreases-loop-at l = l.at
