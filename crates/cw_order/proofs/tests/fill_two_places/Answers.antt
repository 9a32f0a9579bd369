use Rattle.std.proofs.Common.{◌≢◌, Some, subst, sym}
use Rattle.std.specs.List.{Contains}
use Rattle.cw_order.proofs.Members.{placed_old, some_place, without_old}
use Rattle.cw_order.proofs.tests.fill_two_places.Goals as goal

pub before-requires-clause-first : goal.before-requires-clause-first
before-requires-clause-first g c =
    subst (λ zs. Contains zs c.in_ok-e0.e0) (sym c.in_ok-e1.ensures.placed) (placed_old (Some c.in_ok-e0.e0) c.in_ok-e1.e1 c.insert_after.new.self.elements c.in_ok-e0.e0 c.in_ok-e0.ensures.there)

pub insert_after-requires-4 : goal.insert_after-requires-4
insert_after-requires-4 g c =
    let e0 = c.in_ok-e0.e0 in
    let e1 = c.in_ok-e1.e1 in
    let other : e1 ≢ e0 = λ same. c.in_ok-e1.ensures.new (subst (Contains c.insert_after.new.self.elements) (sym same) c.in_ok-e0.ensures.there) in
    let has : Contains c.insert_after-3.new.self.elements e1 = subst (λ o. Contains o.elements e1) (sym c.in-Err.ensures.err) c.in_ok-e1.ensures.there in
    some_place c.remove.new.self.elements e1 (subst (λ zs. Contains zs e1) (sym c.remove.ensures.removed) (without_old e0 c.insert_after-3.new.self.elements e1 other has))

pub before-requires-3-clause-first : goal.before-requires-3-clause-first
before-requires-3-clause-first g c =
    let e0 = c.in_ok-e0.e0 in
    let e1 = c.in_ok-e1.e1 in
    let other : e1 ≢ e0 = λ same. c.in_ok-e1.ensures.new (subst (Contains c.insert_after.new.self.elements) (sym same) c.in_ok-e0.ensures.there) in
    let has : Contains c.insert_after-3.new.self.elements e1 = subst (λ o. Contains o.elements e1) (sym c.in-Err.ensures.err) c.in_ok-e1.ensures.there in
    let left : Contains c.remove.new.self.elements e1 = subst (λ zs. Contains zs e1) (sym c.remove.ensures.removed) (without_old e0 c.insert_after-3.new.self.elements e1 other has) in
    subst (λ zs. Contains zs e1) (sym c.in_ok-e2.ensures.placed) (placed_old (Some e1) c.in_ok-e2.e2 c.remove.new.self.elements e1 left)
