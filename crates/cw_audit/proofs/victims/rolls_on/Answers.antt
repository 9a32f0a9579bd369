use Rattle.std.proofs.Common.{sym, ◌∙◌, ap, ◌≡◌, true, false}
use Rattle.std.specs.Prelude.{not}
use Rattle.cw_tree.specs.Nodes.{stamp_of}
use Rattle.cw_tree.specs.Refusals.{is_victim}
use Rattle.cw_tree.proofs.NodeKinds.{aborted_block, block_some, block_stamped}
use Rattle.cw_tree.proofs.Walks.There.{stamp_is}
use Rattle.cw_audit.specs.Victims.{is_among}
use Rattle.cw_audit.proofs.Rolling.{victim_is, on_victim, on_last}
use Rattle.cw_audit.proofs.victims.rolls_on.Goals as goal

pub returns-then-is_among : goal.returns-then-is_among
returns-then-is_among c =
    let t = c.args.tree.now in
    let cs = c.args.conflicts.now in
    let n = c.args.n in
    let block = aborted_block t n (sym c.is_aborted.ensures ∙ c.if-not-is_aborted.false) in
    let victim : is_victim t cs n ≡ true =
    victim_is t cs n block (block_stamped t c.requires.stamps n block)
    ∙ sym (c.requires.victims (stamp_of t n))
    ∙ ap (λ s. is_among s c.args.victims.now) (stamp_is t n c.node.result.now c.node.ensures)
    ∙ sym c.is_among.ensures ∙ c.if-is_among.true
    in
    sym (on_victim t cs n victim)

pub returns : goal.returns
returns c =
    let t = c.args.tree.now in
    let cs = c.args.conflicts.now in
    let n = c.args.n in
    let aborted = sym c.is_aborted.ensures ∙ c.if-not-is_aborted.false in
    let block = aborted_block t n aborted in
    let none : is_victim t cs n ≡ false =
    victim_is t cs n block (block_stamped t c.requires.stamps n block)
    ∙ sym (c.requires.victims (stamp_of t n))
    ∙ ap (λ s. is_among s c.args.victims.now) (stamp_is t n c.node.result.now c.node.ensures)
    ∙ sym c.is_among.ensures ∙ c.if-is_among.false
    in
    ap not (c.requires.laters.each n (block_some t c.nodes.ensures.numbered.root n block) c.requires.there) ∙ on_last t cs n aborted none
