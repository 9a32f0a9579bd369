use Rattle.std.proofs.Common.{◌≡◌, map}
use Rattle.cw_tree.specs.Accesses.{is_live}
use Rattle.cw_tree.specs.Nodes.{below}
use Rattle.cw_audit.proofs.accesses.lives.Given as goal

abbrev pub invariant-loop-n : goal.invariant-loop-n
invariant-loop-n l = l.lives.items ≡ map (is_live l.tree) (below l.n)
