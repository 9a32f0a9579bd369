use Rattle.cw_xconf.proofs.Rules.{covers_own, covers_inner, tells_of_block}
use Rattle.cw_xconf.proofs.query.contains_by.Goals as goal

pub returns-then-is_same-clause-given : goal.returns-then-is_same-clause-given
returns-then-is_same-clause-given g c =
    covers_own (g.C.Columns.told c.owner-own.new.self) c.args.block c.args.last c.owner-trace.result c.owner-own.result c.is_same.result c.is_less.result (c.owner-own.ensures.kept _ _ c.owner-trace.ensures.told) c.owner-own.ensures.told c.is_same.ensures.value c.if-is_same.true c.is_less.ensures.value

pub returns-else-is_same-clause-given : goal.returns-else-is_same-clause-given
returns-else-is_same-clause-given g c =
    let k = c.inside.ensures.kept in
    covers_inner (g.C.Columns.told c.inside.new.self) c.args.block c.args.last c.owner-trace.result c.owner-own.result c.is_same.result c.inside.result (k _ _ (c.owner-own.ensures.kept _ _ c.owner-trace.ensures.told)) (k _ _ c.owner-own.ensures.told) c.is_same.ensures.value c.if-is_same.false c.inside.ensures.told

pub returns-then-is_same-clause-tells : goal.returns-then-is_same-clause-tells
returns-then-is_same-clause-tells g c = λ columns words stays. tells_of_block columns words (g.C.Columns.told c.owner-own.new.self) stays c.args.block c.args.last c.is_less.result (returns-then-is_same-clause-given g c)

pub returns-else-is_same-clause-tells : goal.returns-else-is_same-clause-tells
returns-else-is_same-clause-tells g c = λ columns words stays. tells_of_block columns words (g.C.Columns.told c.inside.new.self) stays c.args.block c.args.last c.inside.result (returns-else-is_same-clause-given g c)
