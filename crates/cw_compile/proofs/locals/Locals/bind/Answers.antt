use Rattle.cw_compile.specs.Named.{value_named}
use Rattle.cw_compile.proofs.Declarations.{fits_more}
use Rattle.cw_compile.proofs.locals.Locals.bind.Goals as goal

pub invariant_of-self-in_default : goal.invariant_of-self-in_default
invariant_of-self-in_default g c = rw c.in_ok-push.ensures.ok (fits_more c.self.inside.declared (record { name = c.args.name; value = c.get.result }) c.args.value (value_named c.self.inside.values) (value_named c.set.new.self) c.get.ensures c.in_default.ensures.ok c.self.invariant)
