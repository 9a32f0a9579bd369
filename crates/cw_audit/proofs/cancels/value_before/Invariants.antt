use Rattle.std.proofs.Common.{◌≡◌, take, map, get_or, pos}
use Rattle.cw_tree.specs.Accesses.{cell_value, written}
use Rattle.cw_audit.proofs.Backs.{NoneBeneath}
use Rattle.cw_audit.proofs.cancels.value_before.Given as goal

abbrev pub invariant-loop-i : goal.invariant-loop-i
invariant-loop-i l = record {
  none : NoneBeneath l.tree l.block (take l.i l.journal);
  value : l.value ≡ cell_value (get_or l.first l.cell (pos 0)) (map (written l.tree) (take l.i l.journal));
}
