use Rattle.std.proofs.Common.{ℕ, ◌<◌, ap, sym, subst}
use Rattle.cw_board.proofs.Boards.{root_is}
use Rattle.cw_board.proofs.board.Board.new.Goals as goal

pub returns-clause-of : goal.returns-clause-of
returns-clause-of c =
    let e = c.in_ok-shared.ensures in
    root_is (record { shared = c.in_ok-shared.shared }) c.in_ok-shared.token e.table e.token.0 e.token.1 e.room e.stands (subst (λ (n : ℕ). 0 < n) (sym (ap (λ k. k.columns) e.key)) c.requires)
