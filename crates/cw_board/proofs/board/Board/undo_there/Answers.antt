use Rattle.std.proofs.Common.{◌∙◌, subst, sym}
use Rattle.cw_steps.specs.declared.draw.Aim.{Aim}
use Rattle.cw_steps.specs.declared.draw.Aim.TheVariants as aims
use Rattle.std.specs.Prelude.{IsSomeAnd}
use Rattle.cw_steps.specs.Homes.{LeavesCell}
use Rattle.cw_steps.specs.Views.{newest_cell, view_of}
use Rattle.cw_board.proofs.Rolls.{gives_back, undone_since}
use Rattle.cw_board.proofs.board.Board.undo_there.Goals as goal

pub leave_cell-requires-clause-low : goal.leave_cell-requires-clause-low
leave_cell-requires-clause-low g c = c.cut_from.ensures.low (view_of c.hold_cell-held.new.token).seen c.hold_cell-held.ensures.low

pub returns-clause-returned : goal.returns-clause-returned
returns-clause-returned g c =
    let e = c.leave_cell.ensures in
    gives_back c.args.self.now c.args.cell _ c.args.token.now c.hold_cell-held.new.token c.leave_cell.new.token c.hold_cell-held.ensures.held e.of e.view

pub returns-clause-token : goal.returns-clause-token
returns-clause-token g c = c.leave_cell.ensures.token ∙ c.hold_cell-held.ensures.held.token

pub leave_cell-requires-clause-comes : goal.leave_cell-requires-clause-comes
leave_cell-requires-clause-comes g c =
    let e = c.hold_cell-held.ensures in
    let u = c.hold_cell-held.new.token in (
      tt,
      subst (λ (a : Aim). IsSomeAnd (newest_cell (view_of u).turns) (λ y. LeavesCell a y c.cut_from.new.cell)) (sym e.cell.aim)
          (subst (λ o. IsSomeAnd o (λ y. LeavesCell aims.Undo y c.cut_from.new.cell)) (sym e.cell.there) (undone_since e.cell.lay c.hold_cell-held.result c.cut_from.new.cell e.cell.same c.cut_from.ensures.left)),
    )
