-- How the parts of an order list keep its elements.
use Rattle.std.specs.Prelude.{ℕ, ◌+◌, ◌-◌, ◌≤◌, ◌<◌, ◌≡◌, List, ◌++◌, vec_len}
use Rattle.cw_order.specs.declared.ring.Ring.{Ring}
use Rattle.cw_order.specs.declared.list.OrderList.TheInside.{Inside}
use Rattle.cw_order.specs.Order.{Order}
use Rattle.cw_order.specs.Links.{AreApart, walk}
use Rattle.cw_order.specs.Ring.{IsRing, elements_of, path}

abbrev pub order_of_list : Inside → Order
order_of_list a = record { elements = elements_of a.ring a.count; room = a.ring.room; labels = a.ring.labels.items; renumbered = a.ring.renumbered.items }

-- the places that are not in use, of the `made` ones
abbrev pub free_from : Ring → (made count free : ℕ) → List ℕ
free_from r made count free = walk r.next.items free (made - count)

-- `made` places have been made; the ring has `count` of them, and the others are linked from `free` on
pub record ArePlaces (r : Ring) (made count free : ℕ) : Type 0 where
  pub places : vec_len r.next ≡ made + 1
  pub within : made ≤ r.room
  pub few : count ≤ made
  pub ring : IsRing r (elements_of r count)
  pub there : free < vec_len r.next
  pub apart : AreApart (path (elements_of r count) ++ free_from r made count free)

abbrev pub IsListInMemory : Inside → Type 0
IsListInMemory a = ArePlaces a.ring a.made a.count a.free
