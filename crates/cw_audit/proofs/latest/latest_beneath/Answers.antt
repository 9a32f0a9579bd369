use Rattle.std.proofs.Common.{ap, length}
use Rattle.cw_tree.proofs.Walks.There.{strand_there}
use Rattle.cw_audit.proofs.Rising.Beneath.{down_start, beneath_least, down_step, down_end}
use Rattle.cw_audit.proofs.latest.latest_beneath.Goals as goal

pub loop-n-init : goal.loop-n-init
loop-n-init c =
    down_start c.args.tree.now c.nodes-count.ensures.numbered.rooted (length c.nodes-count.result.now) c.in_ok-latest.latest.items (strand_there c.args.tree.now 0 c.nodes-count.ensures.numbered.root) (ap length c.nodes-count.ensures.nodes) (c.in_ok-latest.ensures.items_if_clones_equal (λ y e. e))

pub latest_within-within-requires-clause-beneath : goal.latest_within-within-requires-clause-beneath
latest_within-within-requires-clause-beneath c =
    beneath_least c.args.tree.now c.nodes-count.ensures.numbered.rooted c.loop-n.n c.loop-n.latest.items c.index.result.now c.loop-n.invariant c.loop-n-test.true c.index.ensures

pub loop-n-preserved : goal.loop-n-preserved
loop-n-preserved c =
    down_step c.args.tree.now c.nodes-count.ensures.numbered.rooted c.loop-n.n c.loop-n.latest.items c.loop-n.invariant c.loop-n-test.true c.latest_within-within.result c.parent-parent.result c.index-in-loop-n.result.now c.max.result
    c.latest_within-within.ensures c.parent-parent.ensures.parent c.index-in-loop-n.ensures c.max.ensures

pub returns-clause-each : goal.returns-clause-each
returns-clause-each c = down_end c.args.tree.now c.nodes-count.ensures.numbered.rooted c.loop-n.n c.loop-n.latest.items c.loop-n.invariant c.loop-n-test.false
