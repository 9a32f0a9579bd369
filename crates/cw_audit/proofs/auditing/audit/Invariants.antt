use Rattle.cw_sheet.specs.Contents.{contents_of}
use Rattle.cw_audit.specs.Audits.{HoldBefore}
use Rattle.cw_audit.proofs.auditing.audit.Given as goal

-- the parts so far hold
abbrev pub invariant-loop-part : goal.invariant-loop-part
invariant-loop-part l = HoldBefore (contents_of l.sheet) l.part
