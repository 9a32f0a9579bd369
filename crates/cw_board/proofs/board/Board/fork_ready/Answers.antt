use Rattle.std.proofs.Common.{◌∙◌, ap, sym}
use Rattle.cw_trace.specs.Columns as columns
use Rattle.cw_steps.specs.Views.{view_of}
use Rattle.cw_board.proofs.Naming.{fork_changed}
use Rattle.cw_board.proofs.board.Board.fork_ready.Goals as goal

pub fork_two-requires-clause-forked : goal.fork_two-requires-clause-forked
fork_two-requires-clause-forked g c =
    let u = c.hold_tier-tier.new.token in
    let lay = c.hold_tier-tier.result in
    let o = c.in-Ok.ensures in
    let forked = o.forked ∙ ap (λ w. columns.forked w c.column.result lay.columns) (c.word.ensures ∙ sym u.word) ∙ ap (λ p. columns.forked (view_of u).word p lay.columns) (c.column.ensures ∙ sym u.column) in
    (lay, c.hold_tier-tier.ensures.lay, forked, fork_changed (view_of u).word (view_of u).column c.in-Ok.left lay c.fork.new.self forked o.strands.0 o.labels o.touched)
