use Rattle.std.proofs.Common.{◌≡◌, ◌≢◌, ◌+◌, ◌<◌, List, ℕ, Option, length, nat_eq, subst, sym, ap, ◌∙◌, refl, arith, get_or, inl, inr}
use Rattle.std.specs.List.{Contains, IsDistinct}
use Rattle.std.specs.Option.{ForSome, unwrap_or}
use Rattle.std.specs.Vec.{vec_len}
use Rattle.cw_order.specs.declared.list.OrderList.TheInside.{Inside}
use Rattle.cw_order.specs.declared.list.Free.{Free}
use Rattle.cw_order.specs.declared.ring.Ring.{Ring}
use Rattle.std.proofs.lemmas.List.{get_or-set_other}
use Rattle.cw_order.specs.Order.{placed_after, LabelsRise}
use Rattle.cw_order.specs.Ring.{elements_of, path}
use Rattle.cw_order.proofs.Inserting.{HasInserted, inserted}
use Rattle.cw_order.proofs.Keeping.{kept_below, kept_distinct, kept_labels, kept_length, kept_new, place_of, path_within}
use Rattle.cw_order.proofs.Members.{placed_new}
use Rattle.cw_order.proofs.list.OrderList.insert_after.Goals as goal

pub returns-then-is_full-clause-distinct : goal.returns-then-is_full-clause-distinct
returns-then-is_full-clause-distinct c = subst (λ o. IsDistinct nat_eq o.elements) c.self.view_is (kept_distinct c.self.inside c.self.invariant)

pub free_place-next-requires-clause-few : goal.free_place-next-requires-clause-few
free_place-next-requires-clause-few c = kept_below c.self.inside c.args.self.now c.self.view_is c.self.invariant c.if-is_full.ensures.1

-- the list with a place for the next element
abbrev ready : Inside → Ring → Free → Inside
ready a r f = record { ring = r; made = f.made; count = a.count; free = f.place }

pub label_after-label-requires-clause-few : goal.label_after-label-requires-clause-few
label_after-label-requires-clause-few c =
    let below = kept_below c.self.inside c.args.self.now c.self.view_is c.self.invariant c.if-is_full.ensures.1 in
    omega (arith, below)

pub overflow_add-self : goal.overflow_add-self
overflow_add-self c =
    let below = kept_below c.self.inside c.args.self.now c.self.view_is c.self.invariant c.if-is_full.ensures.1 in
    record { fits = omega (arith, below) }

pub label_after-label-requires-clause-fits : goal.label_after-label-requires-clause-fits
label_after-label-requires-clause-fits c = omega (arith, c.free_place-next.ensures.kept.few, c.free_place-next.ensures.kept.within)

-- the elements that the new one is placed among
is_place : (at : Option ℕ) (place : ℕ) (xs ys : List ℕ) → place ≡ unwrap_or at 0 → ys ≡ xs → ForSome at (Contains xs) → Contains (path ys) place
is_place at place xs ys is same has = subst (λ zs. Contains (path zs) place) (sym same) (subst (Contains (path xs)) (sym is) (place_of at xs has))

has_place : (c : goal.After-label_after-arg-1) → Contains (path (elements_of c.free_place-next.new.ring c.self.inside.count)) c.unwrap_or-at.result
has_place c =
    let xs = elements_of c.self.inside.ring c.self.inside.count in
    is_place c.args.at c.unwrap_or-at.result xs (elements_of c.free_place-next.new.ring c.self.inside.count) c.unwrap_or-at.ensures c.free_place-next.ensures.elements (subst (λ o. ForSome c.args.at (Contains o.elements)) (sym c.self.view_is) c.requires)

pub label_after-label-requires-clause-ring : goal.label_after-label-requires-clause-ring
label_after-label-requires-clause-ring c = c.free_place-next.ensures.kept.ring

pub label_after-label-requires-clause-place : goal.label_after-label-requires-clause-place
label_after-label-requires-clause-place c =
    let r = c.free_place-next.new.ring in
    path_within r (elements_of r c.self.inside.count) c.unwrap_or-at.result c.free_place-next.ensures.kept.ring (omega (arith, c.free_place-next.ensures.kept.there)) (has_place c)

pub label_after-label-requires-clause-there : goal.label_after-label-requires-clause-there
label_after-label-requires-clause-there c = has_place c

sizes : (a r : Ring) → r.next.items ≡ a.next.items → vec_len r.next ≡ vec_len a.next
sizes a r e = omega (arith, ap length e, r.next.ok.0, a.next.ok.0)

pub link_after-self-inside-requires-clause-at : goal.link_after-self-inside-requires-clause-at
link_after-self-inside-requires-clause-at c =
    let q = c.free_place-next.new.ring in
    let r = c.label_after-label.new.self in
    let there : 0 < vec_len r.next = omega (arith, c.free_place-next.ensures.kept.there, sizes q r c.label_after-label.ensures.next) in
    let xs = elements_of c.self.inside.ring c.self.inside.count in
    let has : ForSome c.args.at (Contains xs) = subst (λ o. ForSome c.args.at (Contains o.elements)) (sym c.self.view_is) c.requires in
    path_within r (elements_of q c.self.inside.count) c.unwrap_or-at.result c.label_after-label.ensures.ring there (is_place c.args.at c.unwrap_or-at.result xs (elements_of q c.self.inside.count) c.unwrap_or-at.ensures c.free_place-next.ensures.elements has)

pub link_after-self-inside-requires-clause-element : goal.link_after-self-inside-requires-clause-element
link_after-self-inside-requires-clause-element c =
    omega (arith, c.free_place-next.ensures.kept.there, sizes c.free_place-next.new.ring c.label_after-label.new.self c.label_after-label.ensures.next)

is_inserted : (c : goal.After-self-3-1)
    → HasInserted (ready c.self.inside c.free_place-next.new.ring c.free_place-next.result) (record { ring = c.link_after-self-inside.new.self; made = c.free_place-next.result.made; count = c.self.inside.count + 1; free = c.link_after-self-inside.result }) c.args.at
is_inserted c =
    let old = c.self.inside in
    let a = ready old c.free_place-next.new.ring c.free_place-next.result in
    let room : a.count ≢ a.made = omega (arith, c.free_place-next.ensures.some) in
    let has : ForSome c.args.at (Contains (elements_of old.ring old.count)) = subst (λ o. ForSome c.args.at (Contains o.elements)) (sym c.self.view_is) c.requires in
    let there : ForSome c.args.at (Contains (elements_of a.ring a.count)) = subst (λ xs. ForSome c.args.at (Contains xs)) (sym c.free_place-next.ensures.elements) has in
    inserted a (record { ring = c.link_after-self-inside.new.self; made = a.made; count = old.count + 1; free = c.link_after-self-inside.result }) c.label_after-label.new.self c.args.at c.unwrap_or-at.result c.label_after-label.result
    c.unwrap_or-at.ensures c.free_place-next.ensures.kept room there c.label_after-label.ensures.next c.label_after-label.ensures.ring c.label_after-label.ensures.above c.label_after-label.ensures.below
    c.link_after-self-inside.ensures.next c.link_after-self-inside.ensures.previous c.link_after-self-inside.ensures.labels refl (c.link_after-self-inside.ensures.room ∙ c.label_after-label.ensures.room) refl c.link_after-self-inside.ensures.was

pub invariant_of-self : goal.invariant_of-self
invariant_of-self c = (is_inserted c).kept

pub returns-clause-new : goal.returns-clause-new
returns-clause-new c =
    let a = ready c.self.inside c.free_place-next.new.ring c.free_place-next.result in
    let room : a.count ≢ a.made = omega (arith, c.free_place-next.ensures.some) in
    let same = c.free_place-next.ensures.elements in
    subst (λ o. Contains o.elements a.free → ⊥) c.self.view_is (subst (λ xs. Contains xs a.free → ⊥) same (kept_new a c.free_place-next.ensures.kept room))

pub returns-clause-placed : goal.returns-clause-placed
returns-clause-placed c =
    let e = c.free_place-next.result.place in
    (is_inserted c).elements ∙ (ap (placed_after c.args.at e) c.free_place-next.ensures.elements ∙ ap (λ o. placed_after c.args.at e o.elements) c.self.view_is)

pub returns-clause-there : goal.returns-clause-there
returns-clause-there c =
    let e = c.free_place-next.result.place in
    let has : ForSome c.args.at (Contains (elements_of c.self.inside.ring c.self.inside.count)) = subst (λ o. ForSome c.args.at (Contains o.elements)) (sym c.self.view_is) c.requires in
    let there = subst (λ xs. ForSome c.args.at (Contains xs)) (sym c.free_place-next.ensures.elements) has in
    subst (λ zs. Contains zs e) (sym (is_inserted c).elements) (placed_new c.args.at e _ there)

pub returns-clause-distinct : goal.returns-clause-distinct
returns-clause-distinct c = kept_distinct _ (is_inserted c).kept

pub returns-clause-few : goal.returns-clause-few
returns-clause-few c =
    let new = kept_length (record { ring = c.link_after-self-inside.new.self; made = c.free_place-next.result.made; count = c.self.inside.count + 1; free = c.link_after-self-inside.result }) in
    omega (arith, new, (is_inserted c).kept.few, (is_inserted c).kept.within)

pub returns-then-is_full-clause-labels : goal.returns-then-is_full-clause-labels
returns-then-is_full-clause-labels c = subst LabelsRise c.self.view_is (kept_labels c.self.inside c.self.invariant)

pub returns-clause-labels : goal.returns-clause-labels
returns-clause-labels c = kept_labels _ (is_inserted c).kept

pub returns-clause-kept : goal.returns-clause-kept
returns-clause-kept c = λ a has.
    (let e = c.free_place-next.result.place in
    let other : a ≢ e = λ q. returns-clause-new c (subst (Contains c.args.self.now.elements) q has) in
    elim (c.label_after-label.ensures.kept a) [
      | inl h ↦ inl (subst (λ xs. Contains xs a) (sym c.link_after-self-inside.ensures.renumbered) h)
      | inr same ↦ inr (ap (λ ls. get_or ls a 0) c.link_after-self-inside.ensures.labels
          ∙ (get_or-set_other c.label_after-label.new.self.labels.items e a c.label_after-label.result 0 other ∙ (same ∙ (c.free_place-next.ensures.labels a ∙ ap (λ o. get_or o.labels a 0) c.self.view_is))))
    ])

pub returns-clause-full : goal.returns-clause-full
returns-clause-full c = (λ e. absurd cc, c.if-is_full.ensures.1)
