use Rattle.std.proofs.Common.{arith}
use Rattle.cw_sheet.specs.Contents.{contents_of}
use Rattle.cw_audit.proofs.PartByPart.{breaks}
use Rattle.cw_audit.proofs.auditing.audit.Goals as goal

pub returns-then-not-branch : goal.returns-then-not-branch
returns-then-not-branch c =
    breaks (contents_of c.args.sheet.now) c.loop-part.part (omega arith) (omega arith) c.loop-part.invariant
    (λ p e h. cc ((c.in_ok-part_holds.ensures p e).1 h, c.if-not-branch.true))
