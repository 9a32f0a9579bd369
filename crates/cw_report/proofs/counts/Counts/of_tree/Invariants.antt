use Rattle.std.proofs.Common.{◌≡◌}
use Rattle.cw_tree.specs.Nodes.{is_strand}
use Rattle.cw_tree.proofs.Counting.{count}
use Rattle.cw_report.specs.Report.{is_undone, stands_cancelled, stands_committed}
use Rattle.cw_report.proofs.counts.Counts.of_tree.Given as goal

-- what the nodes so far count
abbrev pub invariant-loop-n : goal.invariant-loop-n
invariant-loop-n l = record {
  strands : l.counts.strands ≡ count (is_strand l.tree) l.n;
  committed : l.counts.committed ≡ count (stands_committed l.tree) l.n;
  undone : l.counts.undone ≡ count (is_undone l.tree) l.n;
  cancelled : l.counts.cancelled ≡ count (stands_cancelled l.tree) l.n;
}
