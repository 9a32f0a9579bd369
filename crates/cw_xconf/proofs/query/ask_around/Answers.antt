use Rattle.cw_trace.specs.Query.{free, around_within, around_against}
use Rattle.cw_trace.proofs.Query.Agreeing.{stands_later}
use Rattle.cw_xconf.proofs.query.ask_around.Goals as goal

pub returns-in-None-clause-given : goal.returns-in-None-clause-given
returns-in-None-clause-given g c = rw c.in-None.is free

pub returns-then-stands_in-clause-given : goal.returns-then-stands_in-clause-given
returns-then-stands_in-clause-given g c = rw c.in-Some.is (around_within (rw c.if-stands_in.true at c.stands_in.ensures.stands))

pub returns-else-stands_in-clause-given : goal.returns-else-stands_in-clause-given
returns-else-stands_in-clause-given g c = rw c.in-Some.is (around_against (stands_later c.lead_word.ensures.kept (rw c.if-stands_in.false at c.stands_in.ensures.stands)) c.lead_word.ensures.word)
