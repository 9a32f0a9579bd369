use Rattle.std.proofs.Common.{◌≡◌, take}
use Rattle.cw_sheet.proofs.judging.built.Given as goal

abbrev pub invariant-loop-n : goal.invariant-loop-n
invariant-loop-n l = l.tree ≡ take l.n l.nodes
