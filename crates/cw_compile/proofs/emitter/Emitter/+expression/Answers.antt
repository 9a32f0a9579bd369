use Rattle.cw_text.proofs.Blocks.{inner_is_terms}
use Rattle.cw_compile.proofs.emitter.Emitter.+expression.Goals as goal

pub term-returns-in-Call : goal.term-returns-in-Call
term-returns-in-Call t c = rw (c.in-Call.is, inner_is_terms c.in-Call.args, ← c.as_slice.ensures.value) c.call.ensures
