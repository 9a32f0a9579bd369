use Rattle.std.proofs.Common.{◌≡◌, ◌<◌, length}
use Rattle.cw_tree.specs.Walks.{nua}
use Rattle.cw_tree.proofs.tree.Tree.nua.Given as goal

-- no pending block was met
abbrev pub invariant-loop-at : goal.invariant-loop-at
invariant-loop-at l = record { there : l.at < length l.self; same : nua l.self l.at ≡ nua l.self l.n }

abbrev pub decreases-loop-at : goal.decreases-loop-at
decreases-loop-at l = l.at
