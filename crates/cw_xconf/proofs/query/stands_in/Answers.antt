use Rattle.cw_xconf.proofs.Rules.{stands_it, stands_inside}
use Rattle.cw_xconf.proofs.query.stands_in.Goals as goal

pub returns-then-is_same-clause-stands : goal.returns-then-is_same-clause-stands
returns-then-is_same-clause-stands g c = stands_it (g.C.Columns.told c.owner-trace.new.self) c.args.strand c.owner-trace.result c.args.outer c.is_same.result c.owner-trace.ensures.told c.is_same.ensures.value c.if-is_same.true

pub returns-else-is_same-clause-stands : goal.returns-else-is_same-clause-stands
returns-else-is_same-clause-stands g c = stands_inside (g.C.Columns.told c.inside.new.self) c.args.strand c.owner-trace.result c.args.outer c.is_same.result c.inside.result (c.inside.ensures.kept _ _ c.owner-trace.ensures.told) c.is_same.ensures.value c.if-is_same.false c.inside.ensures.told
