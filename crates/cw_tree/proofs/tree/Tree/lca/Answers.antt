use Rattle.std.proofs.Common.{arith, ap, sym, ◌∙◌, ◌<◌}
use Rattle.cw_tree.specs.Walks.{lca}
use Rattle.cw_tree.proofs.Walks.Meets.{lca_left, lca_right}
use Rattle.cw_tree.proofs.tree.Tree.lca.Goals as goal

pub loop-left-preserved-then-left-right : goal.loop-left-preserved-then-left-right
loop-left-preserved-then-left-right c =
    let at = c.loop-left.invariant in
    record {
      left = omega arith;
      right = at.right;
      same = ap (λ n. lca c.args.self.now n c.loop-left.right) c.parent-left.ensures.parent
          ∙ sym (lca_left c.args.self.now c.parent-left.ensures.numbered.rooted c.loop-left.left c.loop-left.right at.left at.right c.if-left-right.true)
          ∙ at.same;
    }

pub loop-left-preserved : goal.loop-left-preserved
loop-left-preserved c =
    let at = c.loop-left.invariant in
    let less : c.loop-left.left < c.loop-left.right = omega arith in
    record {
      left = at.left;
      right = omega arith;
      same = ap (lca c.args.self.now c.loop-left.left) c.parent-right.ensures.parent
          ∙ sym (lca_right c.args.self.now c.parent-right.ensures.numbered.rooted c.loop-left.left c.loop-left.right at.left at.right less)
          ∙ at.same;
    }
