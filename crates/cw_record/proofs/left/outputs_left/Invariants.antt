use Rattle.std.proofs.Common.{◌≡◌, take}
use Rattle.cw_record.specs.Coherent.{outputs_shown}
use Rattle.cw_record.proofs.left.outputs_left.Given as goal

-- the outputs among the items so far
abbrev pub invariant-loop-item : goal.invariant-loop-item
invariant-loop-item l = l.outputs ≡ outputs_shown l.tree (take l.item-index l.items)
