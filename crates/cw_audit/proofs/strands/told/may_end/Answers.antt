use Rattle.cw_audit.proofs.strands.told.may_end.Goals as goal

pub returns : goal.returns
returns c = λ job. ((λ e live. (c.is_over.ensures job).0 e), (λ h. (c.is_over.ensures job).1 (h c.if-not-live.false)))
