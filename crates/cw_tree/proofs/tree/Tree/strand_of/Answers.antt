use Rattle.std.proofs.Common.{arith, ap, sym, ◌∙◌, ◌<◌}
use Rattle.cw_tree.specs.Series.{strand_of}
use Rattle.cw_tree.proofs.Walks.Strands.{strand_of_other}
use Rattle.cw_tree.proofs.tree.Tree.strand_of.Goals as goal

pub loop-at-preserved : goal.loop-at-preserved
loop-at-preserved c =
    let t = c.args.self.now in
    let at = c.loop-at.at in
    let some : 0 < at = c.loop-at-test.true in
    let low = c.parent-at.ensures.low some in
    let there = c.loop-at.invariant.there in
    record {
      there = omega (arith, low, there);
      same = ap (strand_of t) c.parent-at.ensures.parent ∙ sym (strand_of_other t c.parent-at.ensures.numbered.rooted at some there (sym c.is_strand.ensures ∙ c.if-not-is_strand.true)) ∙ c.loop-at.invariant.same;
    }
