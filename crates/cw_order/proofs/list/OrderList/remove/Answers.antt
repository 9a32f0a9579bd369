use Rattle.std.proofs.Common.{◌-◌, subst, sym, ap, ◌∙◌, refl, arith}
use Rattle.std.specs.List.{Contains}
use Rattle.cw_order.specs.Order.{without}
use Rattle.cw_order.specs.Ring.{elements_of}
use Rattle.cw_order.proofs.Keeping.{after_head, kept_distinct, kept_labels, path_within}
use Rattle.cw_order.proofs.Removing.{HasRemoved, removed}
use Rattle.cw_order.proofs.list.OrderList.remove.Goals as goal

pub unlink-requires-clause-element : goal.unlink-requires-clause-element
unlink-requires-clause-element c =
    let old = c.self.inside in
    let xs = elements_of old.ring old.count in
    let has : Contains xs c.args.e = subst (λ o. Contains o.elements c.args.e) (sym c.self.view_is) c.requires in
    path_within old.ring xs c.args.e c.self.invariant.ring (omega (arith, c.self.invariant.there)) (after_head xs c.args.e has)

is_removed : (c : goal.After-self-2-1) → HasRemoved c.self.inside (record { ring = c.unlink.new.self; made = c.self.inside.made; count = c.self.inside.count - 1; free = c.args.e }) c.args.e
is_removed c =
    let old = c.self.inside in
    let has : Contains (elements_of old.ring old.count) c.args.e = subst (λ o. Contains o.elements c.args.e) (sym c.self.view_is) c.requires in
    removed old (record { ring = c.unlink.new.self; made = old.made; count = old.count - 1; free = c.args.e }) c.args.e c.self.invariant has c.unlink.ensures.next c.unlink.ensures.previous c.unlink.ensures.labels refl c.unlink.ensures.room refl refl

pub invariant_of-self : goal.invariant_of-self
invariant_of-self c = (is_removed c).kept

pub returns-clause-removed : goal.returns-clause-removed
returns-clause-removed c = (is_removed c).elements ∙ ap (λ o. without c.args.e o.elements) c.self.view_is

pub returns-clause-distinct : goal.returns-clause-distinct
returns-clause-distinct c = kept_distinct _ (is_removed c).kept

pub returns-clause-labels : goal.returns-clause-labels
returns-clause-labels c = kept_labels _ (is_removed c).kept
