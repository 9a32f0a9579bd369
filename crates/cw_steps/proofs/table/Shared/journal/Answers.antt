use Rattle.std.proofs.Common.{rules}
use Rattle.cw_steps.specs.Views.{key_of}
use Rattle.cw_steps.proofs.Leaving.Journals.{cell_lay, gives_look, if_ok, journal_then, looked_then}
use Rattle.cw_steps.proofs.table.Shared.journal.Goals as goal

pub returns-clause-journal : goal.returns-clause-journal
returns-clause-journal c =
    let key = key_of c.args.self.now in
    let t = c.args.token.now in
    let u = c.take.new.token in
    let takes = c.if-not-take.ensures.taken (search rules) in
    let o = c.in-Some.ensures.out in
    let lay = cell_lay key c.args.cell t u takes c.in-Some.held o.0 o.1 o.2 in
    if_ok c.entries_of-entries.result (λ es e r s. journal_then key c.args.cell t u takes c.in-Some.held lay es e r s) c.entries_of-entries.ensures.entries c.entries_of-entries.ensures.rising c.entries_of-entries.ensures.steps

pub returns-clause-looked : goal.returns-clause-looked
returns-clause-looked c =
    let key = key_of c.args.self.now in
    let t = c.args.token.now in
    let u = c.take.new.token in
    let v = c.swap_cell.new.token in
    let w = c.swap_cell-2.new.token in
    let takes = c.if-not-take.ensures.taken (search rules) in
    let o = c.in-Some.ensures.out in
    let lay = cell_lay key c.args.cell t u takes c.in-Some.held o.0 o.1 o.2 in
    looked_then key c.args.cell t u takes c.in-Some.held v w lay c.in-Some.ensures.view c.swap_cell-2.ensures.view c.in-Some.ensures.slots c.swap_cell-2.ensures.slots c.give.new.token c.give.ensures.view c.give.ensures.slots

pub give-requires-clause-held : goal.give-requires-clause-held
give-requires-clause-held c =
    let key = key_of c.args.self.now in
    let t = c.args.token.now in
    let u = c.take.new.token in
    let v = c.swap_cell.new.token in
    let w = c.swap_cell-2.new.token in
    let takes = c.if-not-take.ensures.taken (search rules) in
    let o = c.in-Some.ensures.out in
    let lay = cell_lay key c.args.cell t u takes c.in-Some.held o.0 o.1 o.2 in
    gives_look key c.args.cell t u takes c.in-Some.held v w lay c.in-Some.ensures.view c.swap_cell-2.ensures.view c.in-Some.ensures.slots c.swap_cell-2.ensures.slots
