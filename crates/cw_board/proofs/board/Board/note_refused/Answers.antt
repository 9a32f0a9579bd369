use Rattle.std.proofs.Common.{sym, subst}
use Rattle.cw_log.specs.Answers.{IsAround}
use Rattle.cw_steps.specs.Homes.{CellComesHome}
use Rattle.cw_steps.specs.Views.{newest_aim, newest_cell, IsLowCell}
use Rattle.cw_steps.specs.declared.view.View.{View}
use Rattle.cw_steps.specs.declared.view.Slot.TheVariants as slot
use Rattle.cw_steps.specs.declared.draw.Aim.TheVariants as aims
use Rattle.cw_steps.specs.declared.draw.Home.TheVariants as home
use Rattle.cw_board.proofs.Accessing.{refused_is}
use Rattle.cw_board.proofs.Holding.{cell_comes, gives_cell, holds_other}
use Rattle.cw_board.proofs.board.Board.note_refused.Goals as goal

pub give-requires-clause-held : goal.give-requires-clause-held
give-requires-clause-held c =
    let b = c.args.self.now in
    let u = c.args.token.now in
    let v = c.swap_cell.new.token in
    let o = c.swap_cell.ensures in
    let h = c.requires.held in
    gives_cell b c.args.cell c.args.held (home.Refused c.args.conflict) h.0 v (holds_other b c.args.cell h.1 (slot.Cell c.args.held) h.0 u v h.2 o.table o.view o.slots o.track o.token) c.requires.cell
    (subst (λ (w : View). IsLowCell w.seen (slot.Cell c.args.held)) (sym o.view) c.requires.low)
    (subst (λ (w : View). CellComesHome c.args.cell (home.Refused c.args.conflict) (newest_aim w.turns) (newest_cell w.turns) (slot.Cell c.args.held)) (sym o.view) (cell_comes c.args.cell (home.Refused c.args.conflict) aims.Access c.args.held u c.requires.names c.requires.lies))

pub returns-clause-of : goal.returns-clause-of
returns-clause-of c =
    let b = c.args.self.now in
    let u = c.args.token.now in
    let v = c.swap_cell.new.token in
    let o = c.swap_cell.ensures in
    let h = c.requires.held in
    let e = c.give.ensures in
    let now = holds_other b c.args.cell h.1 (slot.Cell c.args.held) h.0 u v h.2 o.table o.view o.slots o.track o.token in
    refused_is b c.args.cell (slot.Cell c.args.held) h.0 v c.give.new.token c.args.conflict now e.table e.view e.slots e.kept.1 e.token
    (subst (λ x. IsAround x c.args.conflict.victim) (sym o.token) c.requires.around)
