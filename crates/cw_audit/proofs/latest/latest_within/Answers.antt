use Rattle.std.proofs.Common.{ap}
use Rattle.cw_tree.specs.Nodes.{number_in}
use Rattle.cw_tree.proofs.Walks.There.{stamp_is}
use Rattle.cw_audit.proofs.Rising.Beneath.{within_least}
use Rattle.cw_audit.proofs.latest.latest_within.Goals as goal

pub returns : goal.returns
returns c =
    let t = c.args.tree.now in
    let n = c.args.n in
    let x = c.node-node.result.now in
    within_least t n x.stamp x.end c.max.result c.max-2.result c.args.beneath c.requires.there (stamp_is t n x c.node-node.ensures) (ap (number_in (λ y. y.end)) c.node-node.ensures) c.requires.beneath c.max.ensures c.max-2.ensures
