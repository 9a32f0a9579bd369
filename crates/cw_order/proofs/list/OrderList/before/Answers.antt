use Rattle.std.proofs.Common.{◌<◌, subst, sym, arith}
use Rattle.std.specs.List.{Contains}
use Rattle.cw_order.specs.Order.{position}
use Rattle.cw_order.specs.declared.ring.TheConstants.{END}
use Rattle.cw_order.specs.Ring.{elements_of}
use Rattle.cw_order.proofs.Keeping.{after_head, path_within}
use Rattle.cw_order.proofs.Placing.{labels-positions}
use Rattle.cw_order.proofs.list.OrderList.before.Goals as goal

pub is_before-requires-clause-first : goal.is_before-requires-clause-first
is_before-requires-clause-first g c =
    let old = c.self.inside in
    let xs = elements_of old.ring old.count in
    let has : Contains xs c.args.a = subst (λ o. Contains o.elements c.args.a) (sym c.self.view_is) c.requires.first in
    path_within old.ring xs c.args.a c.self.invariant.ring (omega (arith, c.self.invariant.there)) (after_head xs c.args.a has)

pub is_before-requires-clause-second : goal.is_before-requires-clause-second
is_before-requires-clause-second g c =
    let old = c.self.inside in
    let xs = elements_of old.ring old.count in
    let has : Contains xs c.args.b = subst (λ o. Contains o.elements c.args.b) (sym c.self.view_is) c.requires.second in
    path_within old.ring xs c.args.b c.self.invariant.ring (omega (arith, c.self.invariant.there)) (after_head xs c.args.b has)

pub returns-clause-order : goal.returns-clause-order
returns-clause-order g c =
    let old = c.self.inside in
    let xs = elements_of old.ring old.count in
    let first : Contains xs c.args.a = subst (λ o. Contains o.elements c.args.a) (sym c.self.view_is) c.requires.first in
    let second : Contains xs c.args.b = subst (λ o. Contains o.elements c.args.b) (sym c.self.view_is) c.requires.second in
    let same = labels-positions old.ring.labels.items xs END c.args.a c.args.b c.self.invariant.ring.rising.1 first second in
    let less = c.is_before.ensures.order in (
      λ t. subst (λ o. position o.elements c.args.a < position o.elements c.args.b) c.self.view_is (same.0 (less.0 t)),
      λ p. less.1 (same.1 (subst (λ o. position o.elements c.args.a < position o.elements c.args.b) (sym c.self.view_is) p)),
    )
