use Rattle.std.proofs.Common.{arith, ◌∷◌}
use Rattle.cw_text.specs.Grammar.{products, sums}
use Rattle.cw_text.proofs.Steps.{steps, goes_on}
use Rattle.cw_text.proofs.parser.Parser.+expression.Goals as goal

pub operand-returns-in-Some-clause-read : goal.operand-returns-in-Some-clause-read
operand-returns-in-Some-clause-read t c = λ k vs h.
    goes_on _ _ _ _ _ (grind (arith, steps)) (c.prefixed.ensures.read k vs h)

pub expr-returns-in-Ok-clause-read : goal.expr-returns-in-Ok-clause-read
expr-returns-in-Ok-clause-read t c = λ k vs h.
    goes_on _ _ _ _ _ (grind (arith, steps)) (c.joined.ensures k vs _)

pub product-returns-in_err-left-2-clause-read : goal.product-returns-in_err-left-2-clause-read
product-returns-in_err-left-2-clause-read t c = λ k vs h.
    let stops = c.in_err-left-2.ensures (products ∷ k) vs in
    grind (arith, steps, stops)

pub sum-returns-in_err-left-2-clause-read : goal.sum-returns-in_err-left-2-clause-read
sum-returns-in_err-left-2-clause-read t c = λ k vs h.
    let stops = c.in_err-left-2.ensures (sums ∷ k) vs in
    grind (arith, steps, stops)
