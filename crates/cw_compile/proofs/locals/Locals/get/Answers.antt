use Rattle.std.proofs.Common.{sym, ◌∙◌}
use Rattle.cw_compile.proofs.Declarations.{named-list_of}
use Rattle.cw_compile.proofs.locals.Locals.get.Goals as goal

pub returns : goal.returns
returns g c = rw (← c.self.view_is) (c.get.ensures ∙ sym (named-list_of c.self.inside.declared _ c.self.invariant c.args.name.now))
