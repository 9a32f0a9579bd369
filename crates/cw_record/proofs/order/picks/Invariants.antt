use Rattle.std.proofs.Common.{◌≡◌, map, take}
use Rattle.cw_record.specs.Order.{pick_of}
use Rattle.cw_record.proofs.order.picks.Given as goal

-- the items so far have their picks
abbrev pub invariant-loop-item : goal.invariant-loop-item
invariant-loop-item l = l.list.items ≡ map (pick_of l.tree) (take l.item-index l.items)
