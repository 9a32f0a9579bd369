use Rattle.std.proofs.Common.{◌≡◌, ◌<◌, ◌++◌, length, map}
use Rattle.cw_tree.specs.Names.{turn, strands_on}
use Rattle.cw_tree.proofs.tree.Tree.turns.Given as goal

-- the steps to the strands that the way up has passed, innermost first
abbrev pub invariant-loop-at : goal.invariant-loop-at
invariant-loop-at l = record { there : l.at < length l.self; passed : l.turns.items ++ map (turn l.self) (strands_on l.self l.at) ≡ map (turn l.self) (strands_on l.self l.strand) }

abbrev pub decreases-loop-at : goal.decreases-loop-at
decreases-loop-at l = l.at
