use Rattle.std.proofs.Common.{◌≡◌, take}
use Rattle.std.specs.List.{filter}
use Rattle.cw_sp.specs.Orders.{is_leaf}
use Rattle.cw_sp.proofs.line.leaves.Given as goal

abbrev pub invariant-loop-n : goal.invariant-loop-n
invariant-loop-n l = l.leaves.items ≡ filter (is_leaf l.tree) (take l.n-index l.order)
