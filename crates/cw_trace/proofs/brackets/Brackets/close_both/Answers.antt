use Rattle.std.proofs.Common.{◌+◌, ap, ◌∙◌, arith}
use Rattle.std.specs.Prelude.{◌*◌}
use Rattle.cw_tree.specs.Walks.{has}
use Rattle.cw_trace.proofs.Marks.FourMarks.{out, stays_out, four_out, next_opening, next_closing}
use Rattle.cw_trace.proofs.brackets.Brackets.close_both.Goals as goal

pub remove-requires-2 : goal.remove-requires-2
remove-requires-2 c =
    let f = c.args.fork in
    let xs = c.args.self.now.marks in
    ap (λ xs. has xs (2 * f + 1)) c.remove.ensures.marks ∙ stays_out (2 * f) (2 * f + 1) xs (omega arith) c.requires.left.1

pub remove-requires-3 : goal.remove-requires-3
remove-requires-3 c =
    let f = c.args.fork in
    let xs = c.args.self.now.marks in
    ap (λ xs. has xs (2 * f + 2)) (c.remove-2.ensures.marks ∙ ap (out (2 * f + 1)) c.remove.ensures.marks)
    ∙ stays_out (2 * f + 1) (2 * f + 2) (out (2 * f) xs) (omega arith) (stays_out (2 * f) (2 * f + 2) xs (omega arith) (ap (has xs) (next_opening f) ∙ c.requires.right.0))

pub remove-requires-4 : goal.remove-requires-4
remove-requires-4 c =
    let f = c.args.fork in
    let xs = c.args.self.now.marks in
    ap (λ xs. has xs (2 * f + 3)) (c.remove-3.ensures.marks ∙ ap (out (2 * f + 2)) (c.remove-2.ensures.marks ∙ ap (out (2 * f + 1)) c.remove.ensures.marks))
    ∙ stays_out (2 * f + 2) (2 * f + 3) (out (2 * f + 1) (out (2 * f) xs)) (omega arith)
    (stays_out (2 * f + 1) (2 * f + 3) (out (2 * f) xs) (omega arith) (stays_out (2 * f) (2 * f + 3) xs (omega arith) (ap (has xs) (next_closing f) ∙ c.requires.right.1)))

pub returns-clause-marks : goal.returns-clause-marks
returns-clause-marks c =
    let f = c.args.fork in
    c.remove-4.ensures.marks
    ∙ ap (out (2 * f + 3)) (c.remove-3.ensures.marks ∙ ap (out (2 * f + 2)) (c.remove-2.ensures.marks ∙ ap (out (2 * f + 1)) c.remove.ensures.marks))
    ∙ four_out f c.args.self.now.marks
