use Rattle.std.proofs.Common.{ap, length}
use Rattle.cw_tree.proofs.Walks.There.{strand_there}
use Rattle.cw_audit.proofs.Spanning.Greatest.{greatest_start, greatest_step, greatest_end}
use Rattle.cw_audit.proofs.spans.greatest_within.Goals as goal

pub loop-n-init : goal.loop-n-init
loop-n-init c =
    greatest_start c.args.tree.now c.nodes.ensures.numbered.rooted (length c.nodes.result.now) c.args.numbers.now c.in_ok-greatest.greatest.items (strand_there c.args.tree.now 0 c.nodes.ensures.numbered.root) (ap length c.nodes.ensures.nodes) c.in_ok-greatest.ensures.items c.requires

pub loop-n-preserved : goal.loop-n-preserved
loop-n-preserved c =
    greatest_step c.args.tree.now c.nodes.ensures.numbered.rooted c.loop-n.n c.loop-n.greatest.items c.loop-n.invariant c.loop-n-test.true c.index-within.result.now c.parent-parent.result c.index.result.now c.max.result
    c.index-within.ensures c.parent-parent.ensures.parent c.index.ensures c.max.ensures

pub returns : goal.returns
returns c = greatest_end c.args.tree.now c.nodes.ensures.numbered.rooted c.loop-n.n c.loop-n.greatest.items c.loop-n.invariant c.loop-n-test.false
