use Rattle.std.proofs.Common.{rules, ◌≡◌, ℕ, subst}
use Rattle.cw_steps.specs.Views.{key_of}
use Rattle.cw_board.specs.Boards.{cells_in, AreOfCells}
use Rattle.cw_board.proofs.Boards.{cells_left}
use Rattle.cw_board.proofs.named.NamedBoard.close.Goals as goal

pub returns-in-Ok-clause-journals : goal.returns-in-Ok-clause-journals
returns-in-Ok-clause-journals g c =
    let b = c.self.inside.board in
    let same : cells_in b ≡ c.args.self.cells = search rules in
    subst (λ (n : ℕ). AreOfCells n c.in-Ok.closed.journals) same (cells_left (key_of b.shared) c.token.inside.token.seat.me c.in-Ok.closed.journals c.in-Ok.ensures.journals)
