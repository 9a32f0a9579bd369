use Rattle.std.proofs.Common.{subst, sym, arith}
use Rattle.std.specs.List.{Contains}
use Rattle.cw_order.specs.Ring.{elements_of}
use Rattle.cw_order.proofs.Keeping.{after_head, path_within}
use Rattle.cw_order.proofs.list.OrderList.label.Goals as goal

pub label-requires : goal.label-requires
label-requires c =
    let old = c.self.inside in
    let xs = elements_of old.ring old.count in
    let has : Contains xs c.args.e = subst (λ o. Contains o.elements c.args.e) (sym c.self.view_is) c.requires in
    path_within old.ring xs c.args.e c.self.invariant.ring (omega (arith, c.self.invariant.there)) (after_head xs c.args.e has)
