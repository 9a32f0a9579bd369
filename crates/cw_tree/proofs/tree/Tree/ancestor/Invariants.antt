use Rattle.std.proofs.Common.{◌≡◌, ◌<◌, length}
use Rattle.cw_tree.specs.Walks.{is_ancestor}
use Rattle.cw_tree.proofs.tree.Tree.ancestor.Given as goal

-- a is an ancestor of the node that was reached where it is one of b
abbrev pub invariant-loop-n : goal.invariant-loop-n
invariant-loop-n l = record { there : l.n < length l.self; same : is_ancestor l.self l.a l.n ≡ is_ancestor l.self l.a l.b }

abbrev pub decreases-loop-n : goal.decreases-loop-n
decreases-loop-n l = l.n
