use Rattle.std.proofs.Common.{◌∙◌, drop, ap, sym, subst, None}
use Rattle.std.specs.Prelude.{filter, Contains}
use Rattle.cw_tree.specs.AccessStacks.{stamps}
use Rattle.cw_tree.specs.Walks.{has}
use Rattle.cw_steps.specs.Beneath.{least_with, touched_beneath}
use Rattle.cw_steps.specs.Stands.{token_of}
use Rattle.cw_board.proofs.Cuts.{found_cut, found_there, nothing_cut}
use Rattle.cw_board.proofs.rolling.cut.Goals as goal

pub returns-in-Some-clause-cut : goal.returns-in-Some-clause-cut
returns-in-Some-clause-cut c none =
    let x = c.args.cell.now in
    let ts = touched_beneath (token_of c.args.token.now) c.args.number in
    let es = c.journal.ensures.entries in
    let found = sym c.in-Some.is ∙ c.first_entry.ensures ∙ ap (λ xs. least_with None (filter (has (stamps xs)) ts)) es in
    c.cut_from.ensures.cut (subst (λ k. Contains (stamps (drop k x.entries)) c.in-Some.first) (sym none) (found_there x.entries ts c.in-Some.first found))
    ∙ found_cut x.entries ts c.in-Some.first found c.journal.ensures.rising

pub returns-in_default-clause-cut : goal.returns-in_default-clause-cut
returns-in_default-clause-cut c none =
    let x = c.args.cell.now in
    let ts = touched_beneath (token_of c.args.token.now) c.args.number in
    nothing_cut x.entries ts (sym c.in_default.is ∙ c.first_entry.ensures ∙ ap (λ xs. least_with None (filter (has (stamps xs)) ts)) c.journal.ensures.entries) c.journal.ensures.rising
