use Rattle.std.proofs.Common.{◌≡◌, ◌≤◌, ◌==◌, length}
use Rattle.std.specs.Prelude.{unwrap_or}
use Rattle.cw_tree.specs.Nodes.{last_below}
use Rattle.cw_tree.specs.Series.{strand_of, last_of}
use Rattle.cw_audit.proofs.spent.last_of.Given as goal

-- no node from n on stands in the strand
abbrev pub invariant-loop-n : goal.invariant-loop-n
invariant-loop-n l = record { there : l.n ≤ length l.tree; same : unwrap_or (last_below (λ m. strand_of l.tree m == l.strand) l.n) l.strand ≡ last_of l.tree l.strand }

abbrev pub decreases-loop-n : goal.decreases-loop-n
decreases-loop-n l = l.n
