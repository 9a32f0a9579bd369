use Rattle.std.proofs.Common.{◌≡◌, map, take}
use Rattle.cw_tree.specs.declared.conflict.Conflict.{Conflict}
use Rattle.cw_audit.proofs.refused.askers.Given as goal

abbrev pub invariant-loop-conflict : goal.invariant-loop-conflict
invariant-loop-conflict l = l.askers.items ≡ map (λ (c : Conflict). c.asker) (take l.conflict-index l.conflicts)
