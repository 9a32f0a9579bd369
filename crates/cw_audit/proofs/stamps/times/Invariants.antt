use Rattle.std.proofs.Common.{◌≡◌}
use Rattle.std.specs.List.{flat_map}
use Rattle.cw_tree.specs.Nodes.{below}
use Rattle.cw_audit.specs.Stamps.{times_of}
use Rattle.cw_audit.proofs.stamps.times.Given as goal

abbrev pub invariant-loop-n : goal.invariant-loop-n
invariant-loop-n l = l.times.items ≡ flat_map (times_of l.tree) (below l.n)
