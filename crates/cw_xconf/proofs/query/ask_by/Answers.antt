use Rattle.cw_trace.specs.Query.{own_within, own_against, around}
use Rattle.cw_trace.specs.declared.verdict.Verdict.TheVariants.{Within, Against}
use Rattle.cw_trace.proofs.Query.Agreeing.{has_word_later}
use Rattle.cw_xconf.proofs.Rules.{tells_of_tree}
use Rattle.std.proofs.Common.{sym, ◌∙◌}
use Rattle.cw_xconf.proofs.query.ask_by.Goals as goal

pub returns-then-stands_in-clause-given : goal.returns-then-stands_in-clause-given
returns-then-stands_in-clause-given g c =
    let k = c.stands_in.ensures.kept in
    own_within (k _ _ (c.lead_word-word.ensures.kept _ _ c.owner-own.ensures.told)) (has_word_later k c.lead_word-word.ensures.word)
    (sym c.came_before.ensures.value ∙ c.if-came_before.true) (rw c.if-stands_in.true at c.stands_in.ensures.stands)

pub returns-else-stands_in-clause-given : goal.returns-else-stands_in-clause-given
returns-else-stands_in-clause-given g c =
    let k = c.stands_in.ensures.kept in
    own_against (k _ _ (c.lead_word-word.ensures.kept _ _ c.owner-own.ensures.told)) (has_word_later k c.lead_word-word.ensures.word)
    (sym c.came_before.ensures.value ∙ c.if-came_before.true) (rw c.if-stands_in.false at c.stands_in.ensures.stands)

pub returns-else-came_before-clause-given : goal.returns-else-came_before-clause-given
returns-else-came_before-clause-given g c =
    let k = c.ask_around.ensures.kept in
    let j = c.up-around.ensures.kept in
    around (k _ _ (j _ _ (c.lead_word-word.ensures.kept _ _ c.owner-own.ensures.told))) (has_word_later k (has_word_later j c.lead_word-word.ensures.word))
    (sym c.came_before.ensures.value ∙ c.if-came_before.false) (k _ _ c.up-around.ensures.told) c.ask_around.ensures.given

pub returns-then-stands_in-clause-tells : goal.returns-then-stands_in-clause-tells
returns-then-stands_in-clause-tells g c = λ columns words stays. tells_of_tree columns words (g.C.Columns.told c.stands_in.new.columns) stays c.args.last c.args.asker Within (returns-then-stands_in-clause-given g c)

pub returns-else-stands_in-clause-tells : goal.returns-else-stands_in-clause-tells
returns-else-stands_in-clause-tells g c = λ columns words stays. tells_of_tree columns words (g.C.Columns.told c.stands_in.new.columns) stays c.args.last c.args.asker (Against c.lead_word-word.result) (returns-else-stands_in-clause-given g c)

pub returns-else-came_before-clause-tells : goal.returns-else-came_before-clause-tells
returns-else-came_before-clause-tells g c = λ columns words stays. tells_of_tree columns words (g.C.Columns.told c.ask_around.new.columns) stays c.args.last c.args.asker c.ask_around.result (returns-else-came_before-clause-given g c)
