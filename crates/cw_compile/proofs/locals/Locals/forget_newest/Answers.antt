use Rattle.std.proofs.Common.{sym}
use Rattle.cw_compile.specs.Named.{value_named}
use Rattle.cw_compile.proofs.Declarations.{fits_same}
use Rattle.cw_compile.proofs.locals.Locals.forget_newest.Goals as goal

pub invariant_of-self : goal.invariant_of-self
invariant_of-self g c = fits_same c.self.inside.declared (value_named c.self.inside.values) (value_named c.set.new.self) (λ n. sym (c.in_err-set.ensures.err n)) c.self.invariant
