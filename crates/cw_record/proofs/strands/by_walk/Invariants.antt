use Rattle.std.proofs.Common.{◌≡◌, take}
use Rattle.std.specs.List.{filter}
use Rattle.cw_tree.specs.Nodes.{is_strand}
use Rattle.cw_record.proofs.strands.by_walk.Given as goal

abbrev pub invariant-loop-n : goal.invariant-loop-n
invariant-loop-n l = l.found.items ≡ filter (is_strand l.tree) (take l.n-index l.n-items)
