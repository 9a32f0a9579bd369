use Rattle.std.proofs.Common.{◌≡◌, drop}
use Rattle.cw_sheet.specs.Reading.{fault_named}
use Rattle.cw_sheet.proofs.ends_in.fault_named.Given as goal

abbrev pub invariant-loop-kind : goal.invariant-loop-kind
invariant-loop-kind l = fault_named l.word (drop l.kind-index l.kinds) ≡ fault_named l.word l.kinds
