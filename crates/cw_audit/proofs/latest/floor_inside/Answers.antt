use Rattle.std.proofs.Common.{sym, ◌∙◌}
use Rattle.cw_tree.proofs.Walks.There.{stamp_is}
use Rattle.cw_audit.proofs.Rising.Before.{inside_block, inside_other}
use Rattle.cw_audit.proofs.latest.floor_inside.Goals as goal

pub returns-then-is_block : goal.returns-then-is_block
returns-then-is_block c =
    let t = c.args.tree.now in
    let x = c.node.result.now in
    inside_block t c.nodes.ensures.numbered.rooted c.args.n c.requires.child c.requires.there c.args.floor x.stamp c.max.result c.requires.floor (stamp_is t c.args.n x c.node.ensures) c.max.ensures (sym c.is_block.ensures ∙ c.if-is_block.true)

pub returns-else-is_block : goal.returns-else-is_block
returns-else-is_block c = inside_other c.args.tree.now c.nodes.ensures.numbered.rooted c.args.n c.requires.child c.requires.there c.args.floor c.requires.floor (sym c.is_block.ensures ∙ c.if-is_block.false)
