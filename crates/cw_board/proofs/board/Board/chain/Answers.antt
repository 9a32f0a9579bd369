use Rattle.cw_steps.specs.declared.draw.Aim.TheVariants as aims
use Rattle.cw_steps.specs.declared.draw.Home.TheVariants as home
use Rattle.cw_board.proofs.Holding.{cell_comes}
use Rattle.cw_board.proofs.board.Board.chain.Goals as goal

pub leave_cell-requires-clause-comes : goal.leave_cell-requires-clause-comes
leave_cell-requires-clause-comes g c = cell_comes c.args.cell home.Plain aims.Look c.hold_cell-held.result c.hold_cell-held.new.token tt c.hold_cell-held.ensures.cell
