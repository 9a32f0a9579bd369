-- The brackets of traces in an order list: each element of the list has a mark, and each mark its element.
use Rattle.std.specs.Prelude.{◌≡◌, ℕ, ◌≤◌, ◌<◌, true, length, map, slice_index, nat_eq, vec_capacity}
use Rattle.std.specs.List.{IsDistinct}
use Rattle.cw_order.specs.Order.{LabelsRise}
use Rattle.cw_tree.specs.Walks.{has}
use Rattle.cw_trace.specs.Marks.{Marks}
use Rattle.cw_trace.specs.declared.brackets.Brackets.TheInside.{Inside}

abbrev pub bracket_of : Inside → ℕ → ℕ
bracket_of a e = slice_index a.marks.items e

abbrev pub marks_of : Inside → Marks
marks_of a = record { marks = map (λ e. slice_index a.marks.items e) a.order.elements; room = a.order.room; labels = map (λ e. slice_index a.order.labels e) a.elements.items; renumbered = map (λ e. slice_index a.marks.items e) a.order.renumbered }

pub record AreBracketsInMemory (a : Inside) : Type 0 where
  pub elements_room : a.order.room ≤ vec_capacity a.elements
  pub marks_room : a.order.room < vec_capacity a.marks
  pub labelled : LabelsRise a.order
  pub distinct : IsDistinct nat_eq a.order.elements
  pub low : (e : ℕ) → has a.order.elements e ≡ true → e < length a.marks.items
  pub mark_low : (e : ℕ) → has a.order.elements e ≡ true → bracket_of a e < length a.elements.items
  pub back : (e : ℕ) → has a.order.elements e ≡ true → slice_index a.elements.items (bracket_of a e) ≡ e
