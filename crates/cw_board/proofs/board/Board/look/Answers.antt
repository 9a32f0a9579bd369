use Rattle.std.proofs.Common.{◌∙◌}
use Rattle.cw_steps.specs.declared.draw.Aim.TheVariants as aims
use Rattle.cw_steps.specs.declared.draw.Home.TheVariants as home
use Rattle.cw_steps.specs.Stands.{token_of}
use Rattle.cw_steps.proofs.Leaving.Journals.{looks_not}
use Rattle.cw_board.proofs.Holding.{cell_comes}
use Rattle.cw_board.proofs.Rolls.{gives_back}
use Rattle.cw_board.proofs.board.Board.look.Goals as goal

pub leave_cell-requires-clause-comes : goal.leave_cell-requires-clause-comes
leave_cell-requires-clause-comes g c = cell_comes c.args.cell home.Plain aims.Look c.hold_cell-held.result c.hold_cell-held.new.token tt c.hold_cell-held.ensures.cell

pub returns-clause-returned : goal.returns-clause-returned
returns-clause-returned g c =
    let e = c.leave_cell.ensures in
    gives_back c.args.self.now c.args.cell _ c.args.token.now c.hold_cell-held.new.token c.leave_cell.new.token c.hold_cell-held.ensures.held e.of e.view

pub returns-clause-track : goal.returns-clause-track
returns-clause-track g c = c.leave_cell.ensures.track ∙ c.hold_cell-held.ensures.held.track

pub returns-clause-token : goal.returns-clause-token
returns-clause-token g c = c.leave_cell.ensures.token ∙ c.hold_cell-held.ensures.held.token

pub returns-clause-found : goal.returns-clause-found
returns-clause-found g c =
    let e = c.hold_cell-held.ensures in (
      c.hold_cell-held.result,
      record { before = c.args.token.now; during = c.hold_cell-held.new.token; returned = looks_not c.args.token.now.seat.me; holding = e.held; found = e.cell },
      c.back_in-back.ensures (token_of c.args.token.now) c.requires.touches,
    )
