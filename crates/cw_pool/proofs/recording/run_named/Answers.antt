use Rattle.std.proofs.Common.{ℕ, ◌∙◌, ap, length, subst}
use Rattle.cw_board.specs.Boards.{AreOfCells}
use Rattle.cw_pool.proofs.Recorded.{gives_board, gives_numbers}
use Rattle.cw_pool.proofs.recording.run_named.Goals as goal

pub returns-in-Ok-clause-numbered : goal.returns-in-Ok-clause-numbered
returns-in-Ok-clause-numbered g c =
    let e = c.work_whole-token.ensures in
    gives_numbers c.args.program c.args.words c.as_slice.result.now c.args.limits c.in-Ok.closed c.work_whole-token.result.0 c.as_slice.ensures e.worked c.work_whole-token.result.1 e.whole
    c.in-Ok.ensures.together (subst (λ (n : ℕ). AreOfCells n c.in-Ok.closed.journals) (ap (λ e. e.cells) c.named-board.ensures.board ∙ ap (λ k. length k.first) c.requires.key) c.in-Ok.ensures.journals) c.record_of.result c.record_of.ensures.board

pub returns-in-Ok-clause-board : goal.returns-in-Ok-clause-board
returns-in-Ok-clause-board g c =
    let e = c.work_whole-token.ensures in
    gives_board c.args.program c.args.words c.as_slice.result.now c.args.limits c.in-Ok.closed c.work_whole-token.result.0 c.as_slice.ensures e.worked c.work_whole-token.result.1 e.whole
    c.in-Ok.ensures.together (subst (λ (n : ℕ). AreOfCells n c.in-Ok.closed.journals) (ap (λ e. e.cells) c.named-board.ensures.board ∙ ap (λ k. length k.first) c.requires.key) c.in-Ok.ensures.journals) c.record_of.result c.record_of.ensures.board
