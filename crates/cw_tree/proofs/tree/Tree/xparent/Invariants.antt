use Rattle.std.proofs.Common.{◌≡◌, ◌<◌, length}
use Rattle.cw_tree.specs.Walks.{xparent}
use Rattle.cw_tree.proofs.tree.Tree.xparent.Given as goal

-- no block was met
abbrev pub invariant-loop-at : goal.invariant-loop-at
invariant-loop-at l = record { there : l.at < length l.self; same : xparent l.self l.at ≡ xparent l.self l.n }

abbrev pub decreases-loop-at : goal.decreases-loop-at
decreases-loop-at l = l.at
