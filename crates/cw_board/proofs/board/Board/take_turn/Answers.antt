use Rattle.std.proofs.Common.{◌∙◌, ap}
use Rattle.cw_steps.specs.Places.{turn_word}
use Rattle.cw_steps.specs.Views.{key_of, newest_change}
use Rattle.cw_board.proofs.Holding.{waits_not}
use Rattle.cw_board.proofs.Passes.{noted_left, noted_not, noted_taken, waits_more}
use Rattle.cw_board.proofs.board.Board.take_turn.Goals as goal

pub loop-init : goal.loop-init
loop-init g c = (c.requires.table, waits_not c.args.token.now, c.requires.quiet, noted_not c.args.token.now)

pub loop-preserved : goal.loop-preserved
loop-preserved g c =
    let t = c.args.token.now in
    let u = c.loop.token in
    let v = c.take.new.token in
    let e = c.take.ensures in
    let (table, waited, quiet, noted) = c.loop.invariant in
    let leaves = e.refused c.if-take.false in (
      e.table,
      waits_more (turn_word c.args.slot) t u v waited leaves e.track e.stop e.token,
      ap (λ m. newest_change m.0.turns) leaves.2 ∙ quiet,
      noted_left (turn_word c.args.slot) t u v noted leaves,
    )

pub returns-then-take-clause-noted : goal.returns-then-take-clause-noted
returns-then-take-clause-noted g c =
    let (table, waited, quiet, noted) = c.loop.invariant in
    noted_taken (key_of c.args.self.now.shared) c.args.aim c.args.slot c.args.token.now c.loop.token c.take.new.token noted (c.take.ensures.taken c.if-take.true)
