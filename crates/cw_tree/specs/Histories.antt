-- What a run leaves in its tree, journals and conflicts, whatever strands ran and however it ended.
use Rattle.std.specs.Prelude.{ℤ, List, length}
use Rattle.cw_tree.specs.declared.node.Node.{Node}
use Rattle.cw_tree.specs.declared.access.Entry.{Entry}
use Rattle.cw_tree.specs.declared.conflict.Conflict.{Conflict}
use Rattle.cw_tree.specs.Shape.{IsTree, AreStamps, PendingLast}
use Rattle.cw_tree.specs.Journals.{AreJournals, FitsCells, JournalsEnded}
use Rattle.cw_tree.specs.Cancels.{AreCancels}
use Rattle.cw_tree.specs.Refusals.{AreRefusals, RollsBack}

-- the tree of a run over cells with the first values `first`, the cells' journals, and its conflicts
pub record IsHistory (t : List Node) (first : List ℤ) (kept : List (List Entry)) (cs : List Conflict) : Type 0 where
  pub tree : IsTree t
  pub stamps : AreStamps t
  pub pending_last : PendingLast t
  pub cells : FitsCells t (length first)
  pub journals : AreJournals t first kept
  pub ended : JournalsEnded t (length first)
  pub cancels : AreCancels t first
  pub refusals : AreRefusals t cs
  pub rolls_back : RollsBack t cs
