use Rattle.std.proofs.Common.{◌≡◌, ◌<◌, ◌++◌, length, map}
use Rattle.std.specs.Prelude.{IsTrue}
use Rattle.cw_tree.specs.Nodes.{is_strand}
use Rattle.cw_tree.specs.Names.{turn, strands_on}
use Rattle.cw_report.proofs.strands.Strands.turns.Given as goal

-- the steps to the strands that the way up has passed, innermost first
abbrev pub invariant-loop-at : goal.invariant-loop-at
invariant-loop-at l = record {
  there : l.at < length l.tree;
  strand : IsTrue (is_strand l.tree l.at);
  passed : l.turns.items ++ map (turn l.tree) (strands_on l.tree l.at) ≡ map (turn l.tree) (strands_on l.tree l.strand);
}

abbrev pub decreases-loop-at : goal.decreases-loop-at
decreases-loop-at l = l.at
