use Rattle.std.proofs.Common.{◌<◌, length}
use Rattle.cw_tree.specs.Walks.{IsRooted}
use Rattle.cw_audit.specs.Ended.{AreShortcuts}
use Rattle.cw_audit.proofs.Shortcuts.{Came}
use Rattle.cw_audit.proofs.blocks.first_open.Given as goal

abbrev pub invariant-loop-block : goal.invariant-loop-block
invariant-loop-block l = record {
  there : l.at < length l.tree;
  ways : AreShortcuts l.tree l.time l.ways.items;
  rooted : IsRooted l.tree;
  came : (r : IsRooted l.tree) → Came l.tree r l.time l.node l.at;
}

abbrev pub decreases-loop-block : goal.decreases-loop-block
decreases-loop-block l = l.at
