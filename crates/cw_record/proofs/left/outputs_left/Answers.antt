use Rattle.std.proofs.Common.{arith}
use Rattle.cw_record.specs.declared.items.OrderItem.TheVariants.{Begins}
use Rattle.cw_record.proofs.left.outputs_left.Goals as goal

pub node-requires-in-loop-item : goal.node-requires-in-loop-item
node-requires-in-loop-item c = let there = c.requires c.loop-item.item-index (Begins 0) c.loop-item-test.true in omega (arith, c.node.ensures, there)
