use Rattle.std.proofs.Common.{◌≡◌, take}
use Rattle.cw_audit.specs.Victims.{victim_stamps}
use Rattle.cw_audit.proofs.victims.stamps.Given as goal

abbrev pub invariant-loop-conflict : goal.invariant-loop-conflict
invariant-loop-conflict l = l.stamps.items ≡ victim_stamps (take l.conflict-index l.conflicts)
