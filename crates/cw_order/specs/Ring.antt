-- How a ring keeps a list, and what its calls find and leave.
use Rattle.std.specs.Prelude.{ℕ, ◌-◌, ◌+◌, ◌*◌, ◌/◌, ◌≤◌, ◌<◌, ◌≡◌, ◌==◌, List, ◌∷◌, map, length, slice_index, if◌then◌else◌}
use Rattle.cw_order.specs.declared.ring.Ring.{Ring}
use Rattle.cw_order.specs.declared.ring.Run.{Run}
use Rattle.cw_order.specs.declared.ring.TheConstants.{END}
use Rattle.cw_order.specs.Links.{AreLinked, AreApart, Rise, walk}

abbrev pub label_of : Ring → ℕ → ℕ
label_of r x = slice_index r.labels.items x

-- the label after that of x, or END if x is the last
abbrev pub above_of : Ring → ℕ → ℕ
above_of r x = if slice_index r.next.items x == 0 then END else label_of r (slice_index r.next.items x)

-- the head, then the elements
abbrev pub path : List ℕ → List ℕ
path xs = 0 ∷ xs

-- the first `count` elements that the links lead to from the head
abbrev pub elements_of : Ring → ℕ → List ℕ
elements_of r count = walk r.next.items (slice_index r.next.items 0) count

-- the ring keeps the list xs
pub record IsRing (r : Ring) (xs : List ℕ) : Type 0 where
  pub linked : AreLinked r.next.items r.previous.items (path xs) 0
  pub rising : Rise 1 (map (label_of r) (path xs)) END
  pub apart : AreApart (path xs)

-- The run has exactly the elements whose labels share a range with that of `at`: size labels, from a multiple of size on.
pub record IsRun (r : Ring) (xs : List ℕ) (at size : ℕ) (run : Run) : Type 0 where
  pub start : ℕ
  pub fits : start + run.count ≤ length (path xs)
  pub first : slice_index (path xs) start ≡ run.first
  pub place : ℕ
  pub from : start ≤ place
  pub to : place < start + run.count
  pub there : slice_index (path xs) place ≡ at
  pub below : 0 < start → label_of r (slice_index (path xs) (start - 1)) < label_of r at / size * size
  pub above : start + run.count < length (path xs) → label_of r at / size * size + size ≤ label_of r (slice_index (path xs) (start + run.count))
