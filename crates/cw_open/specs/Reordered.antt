-- What is true of the tree, the journals, the cancels and the conflicts that a run leaves is true of them in
-- depth-first order. A law of `cw_tree` says that the tree is still sound.
use Rattle.std.specs.Prelude.{ℕ, ℤ, List, Option}
use Rattle.cw_tree.specs.declared.node.Node.{Node}
use Rattle.cw_tree.specs.declared.access.Entry.{Entry}
use Rattle.cw_tree.specs.declared.conflict.Conflict.{Conflict}
use Rattle.cw_tree.specs.declared.closed.Halt.{Halt}
use Rattle.cw_tree.specs.Walks.{IsNumbered}
use Rattle.cw_tree.specs.NextNodes.{IsSound}
use Rattle.cw_tree.specs.Journals.{FitsCells, AreJournals, JournalsEnded}
use Rattle.cw_tree.specs.Cancels.{AreCancels}
use Rattle.cw_tree.specs.Refusals.{AreRefusals, RollsBack, MayFault}
use Rattle.cw_tree.specs.InOrder.{in_order, conflicts_in_order, halt_in_order}
use Rattle.cw_open.specs.Left.{AreMade}

-- every access is still of a cell
abbrev pub CellsStay : Type 0
CellsStay = (t : List Node) (k : ℕ) → IsNumbered t → FitsCells t k → FitsCells (in_order t) k

-- the journals are those of the new tree
abbrev pub JournalsStay : Type 0
JournalsStay = (t : List Node) (first : List ℤ) (kept : List (List Entry)) → IsNumbered t → IsSound t → AreJournals t first kept → AreJournals (in_order t) first kept

-- each block above an access and not above the next one of its cell is committed, and ended before the next one
abbrev pub EndsStay : Type 0
EndsStay = (t : List Node) (k : ℕ) → IsNumbered t → IsSound t → JournalsEnded t k → JournalsEnded (in_order t) k

-- each live cancel puts back what it did
abbrev pub CancelsStay : Type 0
CancelsStay = (t : List Node) (first : List ℤ) → IsNumbered t → IsSound t → AreCancels t first → AreCancels (in_order t) first

-- the conflicts, in the new order, tell of the refused accesses of the new tree, in its depth-first order
abbrev pub RefusalsStay : Type 0
RefusalsStay = (t : List Node) (cs : List Conflict) → IsNumbered t → AreMade t cs → AreRefusals (in_order t) (conflicts_in_order t cs)

-- a strand that rolls back does nothing else before the victim's place
abbrev pub RollsBackStays : Type 0
RollsBackStays = (t : List Node) (cs : List Conflict) → IsNumbered t → AreMade t cs → RollsBack t cs → RollsBack (in_order t) (conflicts_in_order t cs)

-- a run that may have stopped at a fault may have stopped there in the new tree too
abbrev pub FaultsStay : Type 0
FaultsStay = (t : List Node) (h : Option Halt) → IsNumbered t → MayFault t h → MayFault (in_order t) (halt_in_order t h)
