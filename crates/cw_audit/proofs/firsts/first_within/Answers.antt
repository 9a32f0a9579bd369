use Rattle.cw_tree.proofs.Walks.There.{stamp_is}
use Rattle.cw_audit.proofs.Following.{within_stamp}
use Rattle.cw_audit.proofs.firsts.first_within.Goals as goal

pub returns-then-stamp-gt0 : goal.returns-then-stamp-gt0
returns-then-stamp-gt0 c =
    let t = c.args.tree.now in
    let x = c.node.result.now in
    within_stamp t c.args.n x.stamp c.args.beneath c.lesser.result c.requires.there (stamp_is t c.args.n x c.node.ensures) c.if-stamp-gt0.true c.requires.beneath c.lesser.ensures
