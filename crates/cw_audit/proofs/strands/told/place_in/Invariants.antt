use Rattle.std.proofs.Common.{◌≡◌, ◌&&◌}
use Rattle.std.specs.Prelude.{◌==◌, unwrap_or}
use Rattle.cw_tree.specs.Nodes.{is_pending, last_below}
use Rattle.cw_tree.specs.Series.{strand_of}
use Rattle.cw_audit.proofs.strands.told.place_in.Given as goal

abbrev pub invariant-loop-n : goal.invariant-loop-n
invariant-loop-n l = l.place ≡ unwrap_or (last_below (λ m. is_pending l.tree m && (strand_of l.tree m == l.strand)) l.n) l.strand
