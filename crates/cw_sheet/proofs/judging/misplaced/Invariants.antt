use Rattle.std.proofs.Common.{◌≡◌, None}
use Rattle.std.specs.List.{find}
use Rattle.cw_tree.specs.Nodes.{below}
use Rattle.cw_sheet.specs.Reading.{is_misplaced}
use Rattle.cw_sheet.proofs.judging.misplaced.Given as goal

abbrev pub invariant-loop-n : goal.invariant-loop-n
invariant-loop-n l = find (is_misplaced l.nodes) (below l.n) ≡ None
