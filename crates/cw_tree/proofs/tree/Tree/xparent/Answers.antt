use Rattle.std.proofs.Common.{arith, ◌∙◌}
use Rattle.cw_tree.specs.Nodes.{is_block}
use Rattle.cw_tree.proofs.Walks.Climbs.{found_above, not_found_above}
use Rattle.cw_tree.proofs.tree.Tree.xparent.Goals as goal

pub returns-then-is_block : goal.returns-then-is_block
returns-then-is_block c =
    found_above c.args.self.now c.parent-at.ensures.numbered.rooted (is_block c.args.self.now) c.loop-at.at c.parent-at.result c.parent-at.ensures.parent (omega arith) c.loop-at.invariant.there c.if-is_block.ensures
    ∙ c.loop-at.invariant.same

pub loop-at-preserved : goal.loop-at-preserved
loop-at-preserved c = record {
  there = omega arith;
  same = not_found_above c.args.self.now c.parent-at.ensures.numbered.rooted (is_block c.args.self.now) c.loop-at.at c.parent-at.result c.parent-at.ensures.parent (omega arith) c.loop-at.invariant.there c.if-is_block.ensures
      ∙ c.loop-at.invariant.same;
}
