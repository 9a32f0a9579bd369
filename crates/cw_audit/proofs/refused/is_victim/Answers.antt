use Rattle.std.proofs.Common.{sym, ◌∙◌, ap}
use Rattle.cw_tree.specs.Nodes.{stamp_of}
use Rattle.cw_tree.proofs.NodeKinds.{block_stamped}
use Rattle.cw_tree.proofs.Walks.There.{stamp_is}
use Rattle.cw_audit.specs.Victims.{is_among}
use Rattle.cw_audit.proofs.Rolling.{victim_is}
use Rattle.cw_audit.proofs.refused.is_victim.Goals as goal

pub returns : goal.returns
returns c =
    let t = c.args.tree.now in
    let n = c.args.n in
    let block = sym c.is_block.ensures ∙ c.if-not-is_block.false in
    c.is_among.ensures
    ∙ sym (ap (λ s. is_among s c.args.victims.now) (stamp_is t n c.node.result.now c.node.ensures))
    ∙ c.requires.victims (stamp_of t n)
    ∙ sym (victim_is t c.args.conflicts.now n block (block_stamped t c.requires.stamps n block))
