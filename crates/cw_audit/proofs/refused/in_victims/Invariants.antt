use Rattle.std.proofs.Common.{◌≡◌, map}
use Rattle.cw_tree.specs.Nodes.{below}
use Rattle.cw_audit.specs.Victims.{is_in_victim}
use Rattle.cw_audit.proofs.refused.in_victims.Given as goal

abbrev pub invariant-loop-n : goal.invariant-loop-n
invariant-loop-n l = l.inside.items ≡ map (is_in_victim l.tree l.conflicts) (below l.n)
