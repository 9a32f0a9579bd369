-- What an order list keeps, and that its calls keep it.
use Rattle.std.proofs.Common.{ℕ, suc, ◌+◌, ◌-◌, ◌<◌, ◌≡◌, Option, None, Some, List, ◌∷◌, ◌++◌, length, get_or, drop, nat_eq, refl, sym, ap, ◌∙◌, subst, arith, false, true, inl, inr}
use Rattle.std.proofs.lemmas.Bool.{cases_eq, false≢true}
use Rattle.std.specs.List.{Contains, IsDistinct}
use Rattle.std.specs.Option.{ForSome, unwrap_or}
use Rattle.std.specs.Vec.{vec_len}
use Rattle.std.proofs.lemmas.List.Elements.{All-from_recursion, All-contains}
use Rattle.cw_order.specs.declared.list.OrderList.TheInside.{Inside}
use Rattle.cw_order.specs.declared.ring.Ring.{Ring}
use Rattle.cw_order.specs.Order.{Order, LabelsRise, position}
use Rattle.cw_order.specs.declared.ring.TheConstants.{END}
use Rattle.cw_order.specs.OrderList.{order_of_list, IsListInMemory}
use Rattle.cw_order.specs.Links.{walk, AreLinked, AreApart}
use Rattle.cw_order.specs.Ring.{IsRing, path, elements_of}
use Rattle.cw_order.proofs.Apart.{lacks-contains, lacks_parts, apart_out, distinct_from_apart}
use Rattle.cw_order.proofs.Linking.{walk-linked, length-walk}
use Rattle.cw_order.proofs.Placing.{labels-positions, get_or-read_all, length-read_all, stands_at}
use Rattle.cw_order.proofs.Rising.{rise_first}
use Rattle.cw_order.proofs.Rooms.{linked_within}
use Rattle.cw_order.proofs.Spreading.{read_all}

-- each element has its place in the arrays
pub path_within : (r : Ring) (xs : List ℕ) (x : ℕ) → IsRing r xs → 0 < vec_len r.next → Contains (path xs) x → x < vec_len r.next
path_within r xs x ring some has =
    let size : length r.next.items ≡ vec_len r.next = omega (arith, r.next.ok.0) in
    All-contains (λ y. y < vec_len r.next) (path xs) x (All-from_recursion (λ y. y < vec_len r.next) (path xs) (linked_within r.next.items r.previous.items (path xs) 0 (vec_len r.next) r.leads_on size some ring.linked)) has

pub after_head : (xs : List ℕ) (x : ℕ) → Contains xs x → Contains (path xs) x
after_head xs x has = (suc has.0, omega (arith, has.1), has.2)

-- the place that a new element is to follow
pub place_of : (at : Option ℕ) (xs : List ℕ) → ForSome at (Contains xs) → Contains (path xs) (unwrap_or at 0)
place_of None xs has = (0, omega arith, refl)
place_of (Some a) xs has = after_head xs a (has a refl)

-- the links from the head on are those of the list that the ring keeps
pub elements_are : (r : Ring) (xs : List ℕ) (count : ℕ) → AreLinked r.next.items r.previous.items (path xs) 0 → length xs ≡ count → elements_of r count ≡ xs
elements_are r xs count linked e =
    let all = walk-linked r.next.items r.previous.items (path xs) 0 linked in
    ap (λ n. elements_of r n) (sym e) ∙ ap (λ zs. drop 1 zs) all

pub kept_distinct : (a : Inside) → IsListInMemory a → IsDistinct nat_eq (elements_of a.ring a.count)
kept_distinct a kept = distinct_from_apart (elements_of a.ring a.count) kept.ring.apart.1

pub kept_length : (a : Inside) → length (elements_of a.ring a.count) ≡ a.count
kept_length a = length-walk a.ring.next.items (get_or a.ring.next.items 0 0) a.count

-- the head has the least label, and 0 is below those of the elements
pub kept_labels : (a : Inside) → IsListInMemory a → LabelsRise (order_of_list a)
kept_labels a kept = record { low = low; order = λ x y hx hy. labels-positions labels xs END x y kept.ring.rising.1 hx hy } where
  xs : List ℕ
  xs = elements_of a.ring a.count

  labels : List ℕ
  labels = a.ring.labels.items

  low : (x : ℕ) → Contains xs x → 0 < get_or labels x 0
  low x has =
      let s = stands_at xs x has in
      let first = rise_first 1 (read_all labels xs) END (position xs x) kept.ring.rising.1 (omega (arith, s.within, length-read_all labels xs)) in
      let here = get_or-read_all labels xs (position xs x) s.within in
      omega (arith, kept.ring.rising.0, first, here, ap (λ y. get_or labels y 0) s.there)

-- the first free place is in no use
pub kept_new : (a : Inside) → IsListInMemory a → (a.count ≡ a.made → ⊥) → Contains (elements_of a.ring a.count) a.free → ⊥
kept_new a kept room has =
    let left : a.made - a.count ≡ suc (a.made - (a.count + 1)) = omega (arith, kept.few, room) in
    let fs = walk a.ring.next.items (get_or a.ring.next.items a.free 0) (a.made - (a.count + 1)) in
    let apart : AreApart (path (elements_of a.ring a.count) ++ a.free ∷ fs) = subst (λ zs. AreApart (path (elements_of a.ring a.count) ++ zs)) (ap (walk a.ring.next.items a.free) left) kept.apart in
    let out = lacks_parts (path (elements_of a.ring a.count)) fs a.free (apart_out (path (elements_of a.ring a.count)) fs a.free apart).0 in
    lacks-contains (elements_of a.ring a.count) a.free out.0.1 has

-- a list that is not full has fewer elements than it can hold
pub kept_below : (a : Inside) (o : Order) → order_of_list a ≡ o → IsListInMemory a → (length o.elements ≡ o.room → false ≡ true) → a.count < a.ring.room
kept_below a o view_is kept full =
    let there : a.count ≡ a.ring.room → false ≡ true = λ e. full (subst (λ p. length p.elements ≡ p.room) view_is (kept_length a ∙ e)) in
    elim (cases_eq a.count a.ring.room) [ inl e ↦ absurd (false≢true (there e)) | inr ne ↦ omega (arith, ne, kept.few, kept.within) ]
