use Rattle.std.proofs.Common.{◌<◌, take, length, get_or}
use Rattle.cw_tree.specs.Nodes.{stamp_of}
use Rattle.cw_audit.specs.Ended.{AreShortcuts}
use Rattle.cw_audit.proofs.Sweeping.{Swept}
use Rattle.cw_audit.proofs.blocks.blocks_hold.Given as goal

abbrev pub invariant-loop-i : goal.invariant-loop-i
invariant-loop-i l = record {
  swept : Swept l.tree l.cells (take l.i l.accesses) l.last.items;
  ways : l.i < length l.accesses → AreShortcuts l.tree (stamp_of l.tree (get_or l.accesses l.i 0)) l.ways.items;
}
