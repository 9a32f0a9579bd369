use Rattle.std.proofs.Common.{◌∙◌, ap, refl, sym}
use Rattle.cw_steps.specs.declared.view.View.{View}
use Rattle.cw_steps.specs.Views.{cell_in, newest_aim, newest_cell, newest_change}
use Rattle.cw_board.proofs.Boards.{at_rest_quiet}
use Rattle.cw_board.proofs.Holding.{aim_now, cell_now, holds_now, holding, lies_there, quiet_now}
use Rattle.cw_board.proofs.board.Board.hold_cell.Goals as goal

pub take_turn-requires-clause-quiet : goal.take_turn-requires-clause-quiet
take_turn-requires-clause-quiet g c = at_rest_quiet c.args.self.now c.args.token.now c.requires.of

pub swap_cell-requires-clause-held : goal.swap_cell-requires-clause-held
swap_cell-requires-clause-held g c =
    let e = c.take_turn.ensures in
    (e.taken.takes.lay, holding c.args.self.now c.args.cell e.taken.takes.lay c.args.token.now c.take_turn.new.token (holds_now c.args.self.now c.args.aim c.args.cell c.args.token.now c.take_turn.new.token e.taken c.requires.of e.table))

pub returns-clause-cell : goal.returns-clause-cell
returns-clause-cell g c =
    let b = c.args.self.now in
    let t = c.args.token.now in
    let u = c.take_turn.new.token in
    let e = c.take_turn.ensures in
    let o = c.swap_cell.ensures.out in
    let there = lies_there b c.args.cell e.taken.takes.lay o.0 t u _ (holds_now b c.args.aim c.args.cell t u e.taken c.requires.of e.table) o.1 in
    record {
      lay = c.in-Some.held;
      aim = ap (λ (v : View). newest_aim v.turns) c.swap_cell.ensures.view ∙ aim_now b c.args.aim c.args.cell t u e.taken;
      there = ap (λ (v : View). newest_cell v.turns) c.swap_cell.ensures.view ∙ cell_now b c.args.aim c.args.cell t u e.taken ∙ ap cell_in there ∙ sym o.2 ∙ c.in-Some.is;
      same = (refl, refl, refl);
    }

pub returns-clause-quiet : goal.returns-clause-quiet
returns-clause-quiet g c = ap (λ (v : View). newest_change v.turns) c.swap_cell.ensures.view ∙ quiet_now c.args.self.now c.args.aim c.args.cell c.args.token.now c.take_turn.new.token c.take_turn.ensures.taken
