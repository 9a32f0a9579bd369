use Rattle.cw_audit.proofs.limits.are_in_range.Goals as goal

pub returns-then-not-is_within : goal.returns-then-not-is_within
returns-then-not-is_within c = (λ e. absurd (cc e), λ w. absurd (cc (c.is_within.ensures.1 w.fuel, c.if-not-is_within.true)))
