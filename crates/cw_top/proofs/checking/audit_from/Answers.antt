use Rattle.std.proofs.Common.{rules, subst}
use Rattle.cw_top.specs.Audited.{IsAuditOf}
use Rattle.cw_top.specs.Reasons.{WhyUnread}
use Rattle.cw_top.proofs.SheetsRead.{judged_of, judged_whole, unread_later}
use Rattle.cw_top.proofs.checking.audit_from.Goals as goal

pub returns-in_err-audit-clause-why : goal.returns-in_err-audit-clause-why
returns-in_err-audit-clause-why g c =
    let why = unread_later _ _ _ c.in_ok-bytes.ensures.given c.in_ok-bytes.ensures.whole _ _ c.in_ok-bytes.ensures.later _
    (subst (WhyUnread _) c.as_slice.ensures.value c.in_err-audit.ensures.why) in
    search rules

pub returns-clause-audit : goal.returns-clause-audit
returns-clause-audit g c =
    judged_of _ _ _ c.in_ok-bytes.ensures.given c.in_ok-bytes.ensures.whole c.in_ok-audit.audit
    (subst (λ bytes. IsAuditOf bytes c.in_ok-audit.audit) c.as_slice.ensures.value c.in_ok-audit.ensures.audit)

pub returns-clause-whole : goal.returns-clause-whole
returns-clause-whole g c =
    judged_whole _ _ _ c.in_ok-bytes.ensures.given c.in_ok-bytes.ensures.whole c.in_ok-audit.audit
    (subst (λ bytes. IsAuditOf bytes c.in_ok-audit.audit) c.as_slice.ensures.value c.in_ok-audit.ensures.audit)
