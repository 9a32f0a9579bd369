use Rattle.std.proofs.Common.{◌∙◌, ◌++◌, ap}
use Rattle.cw_steps.specs.declared.draw.Aim.TheVariants as aims
use Rattle.cw_steps.specs.declared.draw.Home.TheVariants as home
use Rattle.cw_steps.specs.Stands.{stands_for}
use Rattle.cw_board.specs.Turns.{HasCell}
use Rattle.cw_board.specs.Victims.{GivesValue, HasFound, IsAskedAbout, IsJudgedBy}
use Rattle.cw_board.proofs.Holding.{cell_comes}
use Rattle.cw_board.proofs.Refusing.{ok_and}
use Rattle.cw_board.proofs.board.Board.access.Goals as goal

pub leave_cell-requires-clause-comes : goal.leave_cell-requires-clause-comes
leave_cell-requires-clause-comes g c =
    let h = c.hold_cell-held.ensures.cell in
    let has : HasCell aims.Access c.reserve-2.new.self c.hold_cell-held.new.token = record { lay = h.lay; aim = h.aim; there = h.there; same = (c.reserve-2.ensures.first ∙ h.same.0, c.reserve-2.ensures.entries ∙ h.same.1, c.reserve-2.ensures.cleaned ∙ h.same.2) } in
    cell_comes c.args.cell home.Plain aims.Access c.reserve-2.new.self c.hold_cell-held.new.token tt has

pub access_held-requires-clause-lies : goal.access_held-requires-clause-lies
access_held-requires-clause-lies g c =
    let h = c.hold_cell-held.ensures.cell in
    record { lay = h.lay; aim = h.aim; there = h.there; same = (c.reserve-2.ensures.first ∙ h.same.0, c.reserve-2.ensures.entries ∙ h.same.1, c.reserve-2.ensures.cleaned ∙ h.same.2) }

pub returns-clause-asked : goal.returns-clause-asked
returns-clause-asked g c =
    let t = c.args.token.now in
    let e = c.reserve.ensures in
    let h = c.hold_cell-held.ensures in
    let found : HasFound c.args.self.now c.args.cell t c.hold_cell-held.new.token c.reserve-2.new.self = record {
      before = c.reserve.new.self;
      seat = e.seat;
      track = e.track;
      token = λ i. stands_for (e.track i) (e.seat i).me.0 (e.stop i);
      holding = h.held;
      found = record { lay = h.cell.lay; aim = h.cell.aim; there = h.cell.there; same = (c.reserve-2.ensures.first ∙ h.cell.same.0, c.reserve-2.ensures.entries ∙ h.cell.same.1, c.reserve-2.ensures.cleaned ∙ h.cell.same.2) };
      noted = (h.noted.0, h.noted.1 ∙ ap (λ s. h.noted.0 ++ s.me.0.notes) e.seat);
    } in
    ok_and (IsJudgedBy c.args.self.now c.args.cell c.reserve-2.new.self.entries c.hold_cell-held.new.token c.access_held.new.token) (GivesValue c.reserve-2.new.self c.args.write) (IsAskedAbout c.args.self.now c.args.cell c.args.write t c.access_held.new.token) c.access_held.result
    (λ a j v. record { during = c.hold_cell-held.new.token; lay = c.reserve-2.new.self; found = found; judged = j; value = v }) c.access_held.ensures.judged c.access_held.ensures.value
