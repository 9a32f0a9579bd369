use Rattle.std.proofs.Common.{◌<◌, length, get_or, pos, rules, w64, SFits, ap, sym, ◌∙◌, Some}
use Rattle.std.proofs.lemmas.Int.{to_z-of_z}
use Rattle.cw_tree.proofs.Members.{all_of}
use Rattle.cw_audit.specs.Backs.{value_back}
use Rattle.cw_audit.proofs.Backs.{journal_is, journal_there, value_of_written, value_of_none}
use Rattle.cw_audit.proofs.cancels.value_back.Goals as goal

pub wrote_in-requires-clause-there : goal.wrote_in-requires-clause-there
wrote_in-requires-clause-there c =
    let t = c.args.tree.now in
    let same = journal_is t c.args.journals.now (length c.args.first.now) c.args.cell c.journal_of-journal.result.now c.requires.journals c.requires.cell c.journal_of-journal.ensures in
    all_of (λ u. u < length t) c.journal_of-journal.result.now (λ v i. journal_there t c.args.cell c.journal_of-journal.result.now same v i)

pub value_before-requires-clause-there : goal.value_before-requires-clause-there
value_before-requires-clause-there c =
    let t = c.args.tree.now in
    let same = journal_is t c.args.journals.now (length c.args.first.now) c.args.cell c.journal_of-journal.result.now c.requires.journals c.requires.cell c.journal_of-journal.ensures in
    all_of (λ u. u < length t) c.journal_of-journal.result.now (λ v i. journal_there t c.args.cell c.journal_of-journal.result.now same v i)

pub returns-then-wrote_in : goal.returns-then-wrote_in
returns-then-wrote_in c =
    let t = c.args.tree.now in
    let js = c.journal_of-journal.result.now in
    let v = get_or c.args.first.now c.args.cell (pos 0) in
    let same = journal_is t c.args.journals.now (length c.args.first.now) c.args.cell js c.requires.journals c.requires.cell c.journal_of-journal.ensures in
    let had : SFits w64 c.value_before.result = search rules in
    ap Some (to_z-of_z w64 c.value_before.result had ∙ c.value_before.ensures) ∙ value_of_written t c.args.block c.args.stamp v js (sym c.wrote_in.ensures ∙ c.if-wrote_in.true) ∙ ap (value_back t c.args.block c.args.stamp v) same

pub returns-else-wrote_in : goal.returns-else-wrote_in
returns-else-wrote_in c =
    let t = c.args.tree.now in
    let js = c.journal_of-journal.result.now in
    let v = get_or c.args.first.now c.args.cell (pos 0) in
    let same = journal_is t c.args.journals.now (length c.args.first.now) c.args.cell js c.requires.journals c.requires.cell c.journal_of-journal.ensures in
    value_of_none t c.args.block c.args.stamp v js (sym c.wrote_in.ensures ∙ c.if-wrote_in.false) ∙ ap (value_back t c.args.block c.args.stamp v) same
