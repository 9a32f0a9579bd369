use Rattle.std.proofs.Common.{◌≡◌, drop}
use Rattle.cw_text.specs.Syntax.{terms_of}
use Rattle.cw_compile.specs.Emitted.{with_terms}
use Rattle.cw_compile.proofs.emitter.Emitter.+expression.Given as goal

abbrev pub invariant-call-loop-arg : goal.invariant-call-loop-arg
invariant-call-loop-arg l = with_terms l.self (terms_of (drop l.arg-index l.args)) ≡ with_terms l.initial.self (terms_of l.args)
