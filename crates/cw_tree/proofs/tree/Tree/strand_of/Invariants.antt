use Rattle.std.proofs.Common.{◌≡◌, ◌<◌, length}
use Rattle.cw_tree.specs.Series.{strand_of}
use Rattle.cw_tree.proofs.tree.Tree.strand_of.Given as goal

-- `at` belongs to the strand of n
abbrev pub invariant-loop-at : goal.invariant-loop-at
invariant-loop-at l = record { there : l.at < length l.self; same : strand_of l.self l.at ≡ strand_of l.self l.n }

abbrev pub decreases-loop-at : goal.decreases-loop-at
decreases-loop-at l = l.at
