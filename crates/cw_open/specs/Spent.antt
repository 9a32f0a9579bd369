-- A strand that has spent its budget.
use Rattle.std.specs.Prelude.{◌≡◌, ℕ, ◌==◌, ◌&&◌, false, IsTrue, All, Option, Some, None}
use Rattle.std.specs.List.{list_any}
use Rattle.cw_tree.specs.declared.conflict.Conflict.{Conflict}
use Rattle.cw_tree.specs.Nodes.{parent_of, is_pending}
use Rattle.cw_tree.specs.Walks.{IsNumbered}
use Rattle.cw_tree.specs.Series.{strand_of, last_of, place}
use Rattle.cw_tree.specs.Refusals.{victim_of, refused_node, Spent}
use Rattle.cw_tree.specs.InOrder.{renamed, in_order, conflicts_in_order}
use Rattle.cw_open.specs.Machine.{OpenMachine, has_finished}
use Rattle.cw_open.specs.Laws.{OfEachState}

-- what a conflict refused is as it was when refused: the block is pending, or the access is the last node of a strand
-- that is still at its place
abbrev pub StandsStill : OpenMachine → Conflict → Option ℕ → Type 0
StandsStill m c (Some v) = IsTrue (is_pending m.tree (refused_node m.tree c))
StandsStill m c None =
    let x = strand_of m.tree c.asker in
    (last_of m.tree x ≡ c.asker) × (place m.tree x ≡ parent_of m.tree c.asker) × (has_finished m x ≡ false)

-- A conflict tells that strand x has spent its budget. After such a conflict its strand made no step, and no such victim was rolled back.
pub record HasSpent (m : OpenMachine) (budget x : ℕ) : Type 0 where
  pub told : IsTrue (list_any (λ c. (c.attempt == budget) && (strand_of m.tree (refused_node m.tree c) == x)) m.conflicts)
  pub still : All (λ c. c.attempt ≡ budget → StandsStill m c (victim_of c)) m.conflicts

-- it has spent its budget in depth-first order too
abbrev pub SpentAreInOrder : Type 0
SpentAreInOrder = OfEachState (λ first m. (budget x : ℕ) → IsNumbered m.tree → HasSpent m budget x → Spent (in_order m.tree) (conflicts_in_order m.tree m.conflicts) budget (renamed m.tree x))
