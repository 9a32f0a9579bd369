use Rattle.std.proofs.Common.{ℕ, ◌+◌, ◌∙◌, ap, sym, subst}
use Rattle.cw_steps.specs.Tracks.{added_home, IsReady}
use Rattle.cw_steps.proofs.track.Track.bring.Goals as goal

pub returns-in-Refused-clause-ready : goal.returns-in-Refused-clause-ready
returns-in-Refused-clause-ready c = subst (λ (m : ℕ). (n : ℕ) → IsReady c.args.self.now (m + n) → IsReady c.refuse.new.self n) (sym (ap added_home c.in-Refused.is)) c.refuse.ensures.ready

pub returns-in-Refused-clause-plain : goal.returns-in-Refused-clause-plain
returns-in-Refused-clause-plain c = λ e. absurd (cc (sym c.in-Refused.is ∙ e))

pub returns-in-Split-clause-plain : goal.returns-in-Split-clause-plain
returns-in-Split-clause-plain c = λ e. absurd (cc (sym c.in-Split.is ∙ e))
