use Rattle.std.proofs.Common.{arith, max, ◌+◌, ◌<◌, ◌≤◌}
use Rattle.cw_text.specs.Syntax.{term_of, height}
use Rattle.cw_text.proofs.Steps.{read-join, read-join-high}
use Rattle.cw_text.proofs.expr.joined.Goals as goal

pub returns-then-height-gt-DEEPEST : goal.returns-then-height-gt-DEEPEST
returns-then-height-gt-DEEPEST c = λ k vs xs.
    let high : 200 < max (height (term_of c.args.left.expr)) (height (term_of c.args.right.expr)) + 1 = omega arith in
    rw c.refusal.ensures (read-join-high c.args.op c.args.line _ _ k vs xs high)

pub returns : goal.returns
returns c = λ k vs xs.
    let low : max (height (term_of c.args.left.expr)) (height (term_of c.args.right.expr)) + 1 ≤ 200 = omega arith in
    rw (c.in_ok-left.ensures, c.in_ok-right.ensures) (read-join c.args.op c.args.line _ _ k vs xs low)
