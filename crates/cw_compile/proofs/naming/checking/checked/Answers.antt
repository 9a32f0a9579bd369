use Rattle.std.proofs.Common.{sym, ◌∙◌}
use Rattle.std.proofs.lemmas.Result.{err_from_is_err_and}
use Rattle.cw_compile.proofs.NamingRules.FirstFault.{refuses, in_functions_first, main_last}
use Rattle.cw_compile.proofs.naming.checking.checked.Goals as goal

pub returns-in_err-in_functions-clause-exact : goal.returns-in_err-in_functions-clause-exact
returns-in_err-in_functions-clause-exact c =
    let p = err_from_is_err_and c.from_residual-in_err-in_functions.result c.from_residual-in_err-in_functions.ensures.1 in
    let items = c.in_ok-declared.ensures in
    rw (p.1, p.2) (refuses _ _ _ c.in_err-in_functions.ensures (in_functions_first _ c.in_ok-declared.declared.names items.declared.names items.exact))

pub returns-in_err-without_main-clause-exact : goal.returns-in_err-without_main-clause-exact
returns-in_err-without_main-clause-exact c =
    let p = err_from_is_err_and c.from_residual-in_err-without_main.result c.from_residual-in_err-without_main.ensures.1 in
    let items = c.in_ok-declared.ensures in
    rw (p.1, p.2) (main_last _ c.in_ok-declared.declared.names items.declared.names items.exact c.in_ok-in_functions.ensures ∙ sym c.in_err-without_main.ensures)

pub returns-clause-exact : goal.returns-clause-exact
returns-clause-exact c =
    let items = c.in_ok-declared.ensures in
    main_last _ c.in_ok-declared.declared.names items.declared.names items.exact c.in_ok-in_functions.ensures ∙ sym c.in_ok-without_main.ensures
