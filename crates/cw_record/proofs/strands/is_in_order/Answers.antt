use Rattle.std.proofs.Common.{◌≡◌, ◌-◌, suc, ap, length, arith}
use Rattle.cw_tree.proofs.InOrder.Renumbered.{some_node}
use Rattle.cw_record.proofs.Orders.InOrder.{in_order_is}
use Rattle.cw_record.proofs.strands.is_in_order.Goals as goal

pub returns : goal.returns
returns c =
    let t = c.args.tree.now in
    let numbered = c.nodes.ensures.numbered in
    let some : length t ≡ suc (length t - 1) = omega (arith, some_node t numbered) in
    λ yes. in_order_is t numbered.rooted (λ n h. c.loop-n.invariant n (omega (arith, ap length c.nodes.ensures.nodes))) (length t - 1) some
