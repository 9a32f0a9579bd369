use Rattle.std.proofs.Common.{◌≡◌, ◌+◌, drop}
use Rattle.cw_text.specs.Syntax.{terms_of}
use Rattle.cw_strand.specs.Compilation.{terms_length}
use Rattle.cw_compile.proofs.lengths.+expression.Given as goal

abbrev pub invariant-of_terms-loop-term : goal.invariant-of_terms-loop-term
invariant-of_terms-loop-term l = l.length + terms_length (terms_of (drop l.term-index l.terms)) ≡ terms_length (terms_of l.terms)
