use Rattle.std.proofs.Common.{subst}
use Rattle.std.specs.Prelude.{MatchBool}
use Rattle.cw_log.specs.Tokens.{conflicts_in, logs}
use Rattle.tests_log.specs.Kept.{HasVictim, HasNoVictim}
use Rattle.tests_log.proofs.Victims.{with_more}
use Rattle.tests_log.proofs.token.StrandToken.fells.Goals as goal

pub returns : goal.returns
returns c = subst (λ x. MatchBool c.have_victim.result (HasVictim (conflicts_in (logs x)) c.args.begin) (HasNoVictim (conflicts_in (logs x)) c.args.begin)) c.self.view_is
    (with_more c.self.inside.conflicts.items (conflicts_in c.self.inside.joined) c.args.begin c.have_victim.result
    (subst (λ ks. HasNoVictim ks c.args.begin) c.as_slice.ensures.value c.if-has_victim.ensures) c.have_victim.ensures)
