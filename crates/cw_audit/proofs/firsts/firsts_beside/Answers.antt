use Rattle.std.proofs.Common.{arith, ap, length, ◌-◌, None, rules}
use Rattle.std.proofs.lemmas.List.{get_or_read}
use Rattle.cw_tree.proofs.Walks.There.{strand_there}
use Rattle.cw_audit.proofs.Following.{besides_start, besides_step, past_parent, past_beneath}
use Rattle.cw_audit.proofs.firsts.firsts_beside.Goals as goal

pub loop-n-init : goal.loop-n-init
loop-n-init c =
    besides_start c.args.tree.now (length c.nodes-count.result.now) c.in_ok-firsts.firsts.items c.in_ok-past.past.items (strand_there c.args.tree.now 0 c.nodes-count.ensures.numbered.root) (ap length c.nodes-count.ensures.nodes)
    (c.in_ok-firsts.ensures.items_if_clones_equal (λ y e. search rules)) (c.in_ok-past.ensures.items_if_clones_equal (λ y e. search rules))

pub first_beside-requires-clause-later : goal.first_beside-requires-clause-later
first_beside-requires-clause-later c =
    let w = c.loop-n.invariant in
    let some = w.some in
    let low = w.low in
    let test = c.loop-n-test.true in
    let less = c.parent-parent.ensures.low (omega arith) in
    let later = get_or_read c.loop-n.past.items c.parent-parent.result c.index-later.result.now (omega (arith, w.past_len)) c.index-later.ensures None in
    past_parent c.args.tree.now c.nodes-count.ensures.numbered.rooted c.loop-n.n c.loop-n.firsts.items c.loop-n.past.items w test c.parent-parent.result c.index-later.result.now c.parent-parent.ensures.parent later

pub first_within-within-requires-clause-beneath : goal.first_within-within-requires-clause-beneath
first_within-within-requires-clause-beneath c =
    let w = c.loop-n.invariant in
    let low = w.low in
    let test = c.loop-n-test.true in
    let own = get_or_read c.loop-n.past.items (c.loop-n.n - 1) c.index.result.now (omega (arith, w.past_len)) c.index.ensures None in
    past_beneath c.args.tree.now c.nodes-count.ensures.numbered.rooted c.loop-n.n c.loop-n.firsts.items c.loop-n.past.items w test c.index.result.now own

pub loop-n-preserved : goal.loop-n-preserved
loop-n-preserved c =
    let w = c.loop-n.invariant in
    let low = w.low in
    let test = c.loop-n-test.true in
    let less = c.parent-parent.ensures.low (omega arith) in
    let later = get_or_read c.loop-n.past.items c.parent-parent.result c.index-later.result.now (omega (arith, w.past_len)) c.index-later.ensures None in
    besides_step c.args.tree.now c.nodes-count.ensures.numbered.rooted c.loop-n.n c.loop-n.firsts.items c.loop-n.past.items w test c.parent-parent.result c.index-later.result.now c.first_beside.result c.first_within-within.result c.lesser.result
    c.parent-parent.ensures.parent later c.first_beside.ensures c.first_within-within.ensures c.lesser.ensures
