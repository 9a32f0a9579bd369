use Rattle.std.proofs.Common.{◌≡◌, take, true}
use Rattle.std.specs.List.{list_all}
use Rattle.cw_audit.specs.Victims.{asker_is_last}
use Rattle.cw_audit.proofs.victims.askers_are_last.Given as goal

abbrev pub invariant-loop-i : goal.invariant-loop-i
invariant-loop-i l = list_all (asker_is_last l.tree) (take l.i l.conflicts) ≡ true
