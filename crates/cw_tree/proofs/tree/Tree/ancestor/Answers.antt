use Rattle.std.proofs.Common.{arith, ap, sym, ◌∙◌, ◌≢◌, subst}
use Rattle.cw_tree.specs.Walks.{IsNumbered, is_ancestor}
use Rattle.cw_tree.proofs.Walks.Ancestors.{ancestor_step, ancestor_here}
use Rattle.cw_tree.proofs.tree.Tree.ancestor.Goals as goal

pub loop-n-preserved : goal.loop-n-preserved
loop-n-preserved c =
    let ok = subst IsNumbered c.self.view_is c.self.invariant in
    let ne : c.loop-n.n ≢ c.args.a = omega arith in
    record {
      there = omega arith;
      same = ap (is_ancestor c.args.self.now c.args.a) c.parent-n.ensures.parent
          ∙ sym (ancestor_step c.args.self.now ok.rooted c.args.a c.loop-n.n (omega arith) c.loop-n.invariant.there ne)
          ∙ c.loop-n.invariant.same;
    }

pub returns : goal.returns
returns c =
    let ok = subst IsNumbered c.self.view_is c.self.invariant in
    ancestor_here c.args.self.now ok.rooted c.args.a c.loop-n.n c.loop-n.invariant.there c.loop-n-test.false ∙ c.loop-n.invariant.same
