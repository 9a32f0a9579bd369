use Rattle.std.proofs.Common.{sym, ◌∙◌}
use Rattle.cw_compile.proofs.Declarations.{length-list_of}
use Rattle.cw_compile.proofs.locals.Locals.count.Goals as goal

pub returns : goal.returns
returns g c = rw (← c.self.view_is) (c.len.ensures ∙ sym (length-list_of c.self.inside.declared _ c.self.invariant))
