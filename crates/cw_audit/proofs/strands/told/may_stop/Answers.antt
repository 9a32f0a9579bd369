use Rattle.cw_audit.proofs.strands.told.may_stop.Goals as goal

pub returns : goal.returns
returns c = λ job. ((λ e at. (c.wants.ensures job).0 e), (λ h. (c.wants.ensures job).1 (h c.if-n-place.false)))
