use Rattle.cw_text.proofs.Blocks.{inner_is_terms}
use Rattle.cw_compile.proofs.lengths.+expression.Goals as goal

pub of_term-returns-in_ok-of_terms-in-Call : goal.of_term-returns-in_ok-of_terms-in-Call
of_term-returns-in_ok-of_terms-in-Call t c = rw (c.in-Call.is, inner_is_terms c.in-Call.args, ← c.as_slice.ensures.value, ← c.in_ok-of_terms-in-Call.ensures) c.sum-in-Call.ensures
