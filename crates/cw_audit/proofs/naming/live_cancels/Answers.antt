use Rattle.std.proofs.Common.{◌≡◌, ◌<◌, arith, ap, sym, ◌∙◌, length, true, None}
use Rattle.std.proofs.lemmas.List.{get_or_read}
use Rattle.cw_tree.specs.Nodes.{is_block, is_block_kind}
use Rattle.cw_tree.proofs.Walks.There.{node_there}
use Rattle.cw_audit.specs.Naming.{one_for}
use Rattle.cw_audit.proofs.GivenUp.{cancels_skip, cancels_more, cancels_all, none_is}
use Rattle.cw_audit.proofs.naming.live_cancels.Goals as goal

pub loop-n-preserved-then-not-is_live_cancel : goal.loop-n-preserved-then-not-is_live_cancel
loop-n-preserved-then-not-is_live_cancel c =
    cancels_skip c.args.tree.now c.loop-n.n c.loop-n.cancels.items c.loop-n.invariant (sym c.is_live_cancel.ensures ∙ c.if-not-is_live_cancel.true)

pub loop-n-preserved : goal.loop-n-preserved
loop-n-preserved c =
    let t = c.args.tree.now in
    let n = c.loop-n.n in
    let q = c.parent-block.result in
    let cancels = c.loop-n.cancels.items in
    let len = c.loop-n.invariant.len in
    let there : n < length t = omega (arith, ap length c.nodes-count.ensures.nodes) in
    let block : is_block t q ≡ true = sym c.is_block.ensures ∙ c.if-not-is_block.false in
    let low : q < length t = node_there (λ x. is_block_kind x.kind) t q block in
    let read = get_or_read cancels q c.index.result.now (omega arith) c.index.ensures None in
    let free : one_for cancels q ≡ None = sym read ∙ none_is c.index.result.now (sym c.is_some.ensures ∙ c.if-is_some.false) in
    cancels_more t n q cancels c.loop-n.invariant there low c.parent-block.ensures.parent block free

pub returns : goal.returns
returns c = cancels_all c.args.tree.now c.loop-n.n c.loop-n.cancels.items (omega (arith, ap length c.nodes-count.ensures.nodes)) c.loop-n.invariant
