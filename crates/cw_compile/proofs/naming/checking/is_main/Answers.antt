use Rattle.cw_compile.proofs.naming.checking.is_main.Goals as goal

pub returns-in-Func : goal.returns-in-Func
returns-in-Func c = rw (c.in-Func.is, ← c.as_str.ensures) c.eq.ensures
