use Rattle.std.proofs.Common.{◌≡◌, drop}
use Rattle.std.specs.List.{find}
use Rattle.cw_tree.specs.Refusals.{tells, telling}
use Rattle.cw_audit.proofs.spent.telling.Given as goal

-- no conflict so far tells so
abbrev pub invariant-loop-conflict : goal.invariant-loop-conflict
invariant-loop-conflict l = find (tells l.tree l.budget l.strand) (drop l.conflict-index l.conflicts) ≡ telling l.tree l.conflicts l.budget l.strand
