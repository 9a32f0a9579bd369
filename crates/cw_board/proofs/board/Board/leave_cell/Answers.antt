use Rattle.std.proofs.Common.{◌∙◌, refl, sym, subst}
use Rattle.cw_steps.specs.Homes.{CellComesHome}
use Rattle.cw_steps.specs.Views.{newest_aim, newest_cell, IsLowCell}
use Rattle.cw_steps.specs.declared.view.View.{View}
use Rattle.cw_steps.specs.declared.view.Slot.TheVariants as slot
use Rattle.cw_steps.specs.declared.draw.Home.TheVariants as home
use Rattle.cw_board.proofs.Holding.{cell_gap, given_is, gives_cell, holds_other}
use Rattle.cw_board.proofs.board.Board.leave_cell.Goals as goal

pub give-requires-clause-held : goal.give-requires-clause-held
give-requires-clause-held c =
    let b = c.args.self.now in
    let u = c.args.token.now in
    let v = c.swap_cell.new.token in
    let o = c.swap_cell.ensures in
    let h = c.requires.held in
    gives_cell b c.args.cell c.args.held home.Plain h.0 v (holds_other b c.args.cell h.1 (slot.Cell c.args.held) h.0 u v h.2 o.table o.view o.slots o.track o.token) c.requires.cell
    (subst (λ (w : View). IsLowCell w.seen (slot.Cell c.args.held)) (sym o.view) c.requires.low)
    (subst (λ (w : View). CellComesHome c.args.cell home.Plain (newest_aim w.turns) (newest_cell w.turns) (slot.Cell c.args.held)) (sym o.view) c.requires.comes)

pub returns-clause-of : goal.returns-clause-of
returns-clause-of c =
    let b = c.args.self.now in
    let u = c.args.token.now in
    let v = c.swap_cell.new.token in
    let o = c.swap_cell.ensures in
    let h = c.requires.held in
    let e = c.give.ensures in
    let now = holds_other b c.args.cell h.1 (slot.Cell c.args.held) h.0 u v h.2 o.table o.view o.slots o.track o.token in
    given_is b c.args.cell (slot.Cell c.args.held) h.0 v c.give.new.token home.Plain now e.table e.view e.slots e.kept.1 e.token tt (cell_gap b c.args.cell (slot.Cell c.args.held) h.0 v now)

pub returns-clause-track : goal.returns-clause-track
returns-clause-track c = c.give.ensures.plain refl ∙ c.swap_cell.ensures.track
