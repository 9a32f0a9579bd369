use Rattle.std.proofs.Common.{◌∙◌}
use Rattle.cw_compile.proofs.Numbers.{named-numbered}
use Rattle.cw_compile.proofs.slots.Slots.find.Goals as goal

pub returns : goal.returns
returns c = rw (← c.self.view_is) (c.get.ensures ∙ named-numbered c.self.inside.numbers c.self.invariant.0 c.args.name.now)
