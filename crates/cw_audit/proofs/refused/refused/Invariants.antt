use Rattle.std.proofs.Common.{◌≡◌, take}
use Rattle.std.specs.List.{filter}
use Rattle.cw_tree.specs.Nodes.{is_tried}
use Rattle.cw_audit.proofs.refused.refused.Given as goal

abbrev pub invariant-loop-i : goal.invariant-loop-i
invariant-loop-i l = l.refused.items ≡ filter (is_tried l.tree) (take l.i l.order)
