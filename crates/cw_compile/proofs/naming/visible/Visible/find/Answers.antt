use Rattle.std.proofs.Common.{refl}
use Rattle.cw_compile.proofs.NamingRules.SameNames.{find-visible}
use Rattle.cw_compile.proofs.naming.visible.Visible.find.Goals as goal

pub returns-in-Some : goal.returns-in-Some
returns-in-Some c = rw (find-visible c.args.self.now c.args.name.now, ← (rw c.as_str.ensures at c.in-Some.ensures)) refl

pub returns-in-None : goal.returns-in-None
returns-in-None c = rw (find-visible c.args.self.now c.args.name.now, ← (rw c.as_str.ensures at c.in-None.ensures)) c.find.ensures
