use Rattle.std.proofs.Common.{rules, refl, arith}
use Rattle.std.proofs.lemmas.List.{drop_all}
use Rattle.cw_text.proofs.Blocks.{inner_is_terms}
use Rattle.cw_text.proofs.Printing.{first_left}
use Rattle.cw_compile.proofs.NamingRules.NameSteps.{arguments_counted}
use Rattle.cw_compile.proofs.naming.checking.+expression.Goals as goal

pub in_term-returns-in-Call : goal.in_term-returns-in-Call
in_term-returns-in-Call t c = rw (c.in-Call.is, inner_is_terms c.in-Call.args, ← c.as_slice.ensures.value) c.in_call.ensures

pub in_call-returns-in_err-in_term : goal.in_call-returns-in_err-in_term
in_call-returns-in_err-in_term t c =
    let next = first_left c.args.args.now c.loop-arg.arg-index c.arg-item.result c.loop-arg-test.true c.arg-item.is in
    rw (arguments_counted c.args.args.now, ← c.in_ok-called.ensures, c.loop-arg.invariant, next, ← c.in_err-in_term.ensures) (search rules)

pub in_call-returns : goal.in_call-returns
in_call-returns t c =
    rw (arguments_counted c.args.args.now, ← c.in_ok-called.ensures, c.loop-arg.invariant, drop_all c.loop-arg.arg-index c.args.args.now (omega (arith, c.loop-arg-test.false))) refl
