use Rattle.std.proofs.Common.{◌-◌, arith}
use Rattle.cw_tree.proofs.Walks.Ancestors.{ancestor_self}
use Rattle.cw_record.proofs.Orders.InOrder.{above_too}
use Rattle.cw_record.proofs.strands.hangs.Goals as goal

pub loop-at-init : goal.loop-at-init
loop-at-init c = record { there = omega (arith, c.requires.there); over = ancestor_self c.args.tree.now (c.args.n - 1) }

pub loop-at-preserved : goal.loop-at-preserved
loop-at-preserved c = record {
  there = (let low = c.parent-at.ensures.low (omega arith) in let there = c.loop-at.invariant.there in omega arith);
  over = above_too c.args.tree.now c.parent-at.ensures.numbered.rooted c.loop-at.at (c.args.n - 1) c.parent-at.result (omega arith) (omega (arith, c.requires.there)) c.loop-at.invariant.there c.parent-at.ensures.parent c.loop-at.invariant.over;
}
