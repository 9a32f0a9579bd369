use Rattle.std.proofs.Common.{refl}
use Rattle.cw_compile.proofs.NamingRules.MainItem.{position-is_main}
use Rattle.cw_compile.proofs.naming.checking.without_main.Goals as goal

pub returns-in-Some : goal.returns-in-Some
returns-in-Some c = rw (← position-is_main 0 c.args.items.now, ← c.main_of.ensures, c.in-Some.is) refl

pub returns-in-None : goal.returns-in-None
returns-in-None c = rw (← position-is_main 0 c.args.items.now, ← c.main_of.ensures, c.in-None.is) refl
