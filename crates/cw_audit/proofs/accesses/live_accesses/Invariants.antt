use Rattle.std.proofs.Common.{◌≡◌, map, take}
use Rattle.cw_audit.specs.declared.accesses.Dated.{Dated}
use Rattle.cw_audit.proofs.accesses.live_accesses.Given as goal

abbrev pub invariant-loop-access : goal.invariant-loop-access
invariant-loop-access l = l.accesses.items ≡ map (λ (a : Dated). a.node) (take l.access-index l.access-items)
