use Rattle.std.proofs.Common.{◌≡◌, map}
use Rattle.std.specs.List.{filter}
use Rattle.cw_tree.specs.Nodes.{below}
use Rattle.cw_audit.specs.Stamped.{is_stamped, stamped_node}
use Rattle.cw_audit.proofs.stamped.stamped_nodes.Given as goal

abbrev pub invariant-loop-n : goal.invariant-loop-n
invariant-loop-n l = l.nodes.items ≡ map (stamped_node l.tree) (filter (is_stamped l.tree) (below l.n))
