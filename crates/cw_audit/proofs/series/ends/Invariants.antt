use Rattle.std.proofs.Common.{◌≡◌, map}
use Rattle.cw_tree.specs.Nodes.{below}
use Rattle.cw_audit.specs.Later.{is_at_end}
use Rattle.cw_audit.proofs.series.ends.Given as goal

abbrev pub invariant-loop-n : goal.invariant-loop-n
invariant-loop-n l = l.ends.items ≡ map (is_at_end l.tree) (below l.n)
