use Rattle.cw_audit.proofs.FurtherOut.{are_cancels}
use Rattle.cw_audit.proofs.surely.all_fit.Goals as goal

pub returns : goal.returns
returns c e =
    are_cancels c.args.tree.now c.args.first.now c.nodes.ensures.numbered.rooted c.args.cancels.now c.args.around.now c.requires.cancels c.requires.around (c.blocks_fit.ensures e) (c.writes_are_named.ensures c.if-not-writes_are_named.false)
