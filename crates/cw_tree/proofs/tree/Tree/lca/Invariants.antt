use Rattle.std.proofs.Common.{◌≡◌, ◌<◌, ◌+◌, length}
use Rattle.cw_tree.specs.Walks.{lca}
use Rattle.cw_tree.proofs.tree.Tree.lca.Given as goal

-- the nodes that were reached have the same least common ancestor
abbrev pub invariant-loop-left : goal.invariant-loop-left
invariant-loop-left l = record { left : l.left < length l.self; right : l.right < length l.self; same : lca l.self l.left l.right ≡ lca l.self l.a l.b }

abbrev pub decreases-loop-left : goal.decreases-loop-left
decreases-loop-left l = l.left + l.right
