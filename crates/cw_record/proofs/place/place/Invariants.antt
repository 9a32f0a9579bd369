use Rattle.std.proofs.Common.{◌≡◌, ◌≤◌, ◌==◌, length}
use Rattle.std.specs.Prelude.{◌&&◌, unwrap_or}
use Rattle.cw_tree.specs.Nodes.{is_pending, last_below}
use Rattle.cw_tree.specs.Series.{strand_of, place}
use Rattle.cw_record.proofs.place.place.Given as goal

-- no node from n on is the place
abbrev pub invariant-loop-n : goal.invariant-loop-n
invariant-loop-n l = record { there : l.n ≤ length l.tree; same : unwrap_or (last_below (λ m. is_pending l.tree m && (strand_of l.tree m == l.strand)) l.n) l.strand ≡ place l.tree l.strand }

abbrev pub decreases-loop-n : goal.decreases-loop-n
decreases-loop-n l = l.n
