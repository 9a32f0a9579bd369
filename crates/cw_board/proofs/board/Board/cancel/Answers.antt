use Rattle.std.proofs.Common.{◌≡◌, ℕ, List, subst, sym}
use Rattle.cw_log.specs.declared.token.Token.{Token}
use Rattle.cw_steps.specs.Beneath.{AreWrittenBeneath}
use Rattle.cw_steps.specs.Stands.{stands_for, token_of}
use Rattle.cw_board.specs.Boards.{cells_in}
use Rattle.cw_board.proofs.PutBack.{listed_before}
use Rattle.cw_board.proofs.board.Board.cancel.Goals as goal

pub give_up-requires-clause-cells : goal.give_up-requires-clause-cells
give_up-requires-clause-cells g c =
    let r = c.reserve.ensures in
    let t = c.args.token.now in
    let same : token_of c.reserve.new.self ≡ token_of t = λ i. stands_for (r.track i) (r.seat i).me.0 (r.stop i) in
    let there = c.in_ok-cells.ensures (token_of t) c.in_ok-touches.ensures in
    subst (λ (x : Token). AreWrittenBeneath x (cells_in c.args.self.now) c.as_slice.result.now) (sym same)
    (subst (λ (ns : List ℕ). AreWrittenBeneath (token_of t) (cells_in c.args.self.now) ns) (sym c.as_slice.ensures.value)
    (subst (λ (n : ℕ). AreWrittenBeneath (token_of t) n c.in_ok-cells.cells.items) c.cells.ensures there))

pub returns-clause-listed : goal.returns-clause-listed
returns-clause-listed g c =
    let t = c.args.token.now in
    let r = c.reserve.ensures in
    let same : token_of c.reserve.new.self ≡ token_of t = λ i. stands_for (r.track i) (r.seat i).me.0 (r.stop i) in
    listed_before c.args.self.now t c.reserve.new.self c.give_up.result r.seat same c.give_up.ensures.listed
