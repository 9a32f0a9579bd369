use Rattle.std.proofs.Common.{◌≡◌}
use Rattle.std.specs.List.{filter}
use Rattle.cw_tree.specs.Nodes.{below, is_strand}
use Rattle.cw_record.proofs.strands.by_numbers.Given as goal

abbrev pub invariant-loop-n : goal.invariant-loop-n
invariant-loop-n l = l.found.items ≡ filter (is_strand l.tree) (below l.n)
