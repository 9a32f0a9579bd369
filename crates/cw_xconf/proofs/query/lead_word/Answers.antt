use Rattle.std.proofs.Common.{None, Some}
use Rattle.cw_trace.specs.Query.{no_lead, a_lead}
use Rattle.cw_xconf.proofs.query.lead_word.Goals as goal

pub returns-in-None-clause-word : goal.returns-in-None-clause-word
returns-in-None-clause-word g c = record { lead = None; is = rw c.in-None.is at c.lead.ensures.told; word = no_lead }

pub returns-in-Some-clause-word : goal.returns-in-Some-clause-word
returns-in-Some-clause-word g c = record { lead = Some c.in-Some.gap; is = c.word.ensures.kept _ _ (rw c.in-Some.is at c.lead.ensures.told); word = a_lead c.word.ensures.told }
