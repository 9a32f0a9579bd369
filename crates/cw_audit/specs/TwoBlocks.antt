-- Which two blocks tell whether all blocks between two accesses were committed in time, so that nobody need look at each.
use Rattle.std.specs.Prelude.{◌≡◌, ◌↔◌, ℕ, ◌<◌, ◌&&◌, not, IsTrue, List, length, find, Option, Some}
use Rattle.cw_tree.specs.declared.node.Node.{Node}
use Rattle.cw_tree.specs.Nodes.{stamp_of, end_of, is_block, is_committed}
use Rattle.cw_tree.specs.Walks.{above, is_above}
use Rattle.cw_tree.specs.Shape.{IsTree, AreStamps}
use Rattle.cw_tree.specs.Journals.{EndedBetween}
use Rattle.cw_tree.specs.Refusals.{outermost_apart}

-- the innermost block above n that is pending or was rolled back
abbrev pub nearest_uncommitted : List Node → ℕ → Option ℕ
nearest_uncommitted t n = find (λ b. is_block t b && not (is_committed t b)) (above t n)

-- The nearest uncommitted block above u is above v, too. The outermost block above u and not above v ended before v.
pub record TwoBlocksTell (t : List Node) (u v : ℕ) : Type 0 where
  pub nearest : (b : ℕ) → nearest_uncommitted t u ≡ Some b → IsTrue (is_above t b v)
  pub outermost : (b : ℕ) → outermost_apart t v u ≡ Some b → end_of t b < stamp_of t v

-- If part 1 holds, these two blocks tell what part 3 asks of two neighbours.
abbrev pub EndedByTwo : Type 0
EndedByTwo = (t : List Node) → IsTree t → AreStamps t → (u v : ℕ) → u < length t → v < length t → EndedBetween t u v ↔ TwoBlocksTell t u v
