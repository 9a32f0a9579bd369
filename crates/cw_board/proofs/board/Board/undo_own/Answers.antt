use Rattle.std.proofs.Common.{◌∙◌, refl}
use Rattle.cw_steps.proofs.Leaving.Journals.{looks_more, looks_not}
use Rattle.cw_board.proofs.board.Board.undo_own.Goals as goal

pub loop-n-init : goal.loop-n-init
loop-n-init g c = (c.requires, looks_not c.args.token.now.seat.me, refl)

pub loop-n-preserved : goal.loop-n-preserved
loop-n-preserved g c =
    let (of, h, token) = c.loop-n.invariant in
    let e = c.undo_access.ensures in
    (e.of, looks_more c.args.token.now.seat.me c.loop-n.token.seat.me c.undo_access.new.token.seat.me h e.returned, e.token ∙ token)
