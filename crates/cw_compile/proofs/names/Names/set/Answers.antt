use Rattle.std.proofs.Common.{None, Some}
use Rattle.std.proofs.lemmas.Result.{err_from_is_err_and}
use Rattle.cw_compile.proofs.KnownNames.{value_named-set, value_named-same}
use Rattle.cw_compile.proofs.names.Names.set.Goals as goal

pub returns-in_ok-insert-in-Some-clause-ok : goal.returns-in_ok-insert-in-Some-clause-ok
returns-in_ok-insert-in-Some-clause-ok g c = rw c.in-Some.is (value_named-set c.args.name.now c.args.self.now.map c.insert.new.self (Some c.in-Some.value) c.in_ok-insert-in-Some.ensures.updates)

pub returns-in_err-insert-in-Some-clause-err : goal.returns-in_err-insert-in-Some-clause-err
returns-in_err-insert-in-Some-clause-err g c =
    let p = err_from_is_err_and c.from_residual.result c.from_residual.ensures.1 in
    rw p.1 (value_named-same c.args.self.now.map c.insert.new.self c.in_err-insert-in-Some.ensures.err)

pub returns-in-None-clause-ok : goal.returns-in-None-clause-ok
returns-in-None-clause-ok g c = rw c.in-None.is (value_named-set c.args.name.now c.args.self.now.map c.remove.new.self None c.remove.ensures.updates)
