use Rattle.std.proofs.Common.{◌∙◌, sym}
use Rattle.cw_serial.proofs.Ordered.{up_none}
use Rattle.cw_serial.proofs.orders.Known.climb.Goals as goal

pub returns-in_default-parent : goal.returns-in_default-parent
returns-in_default-parent c = up_none c.args.self.now.order.now c.args.self.now.numbers.items c.up.at c.args.name c.up.todo (sym c.known.ensures ∙ c.in_default.is) (sym c.parent.ensures ∙ c.in_default-parent.is) c.up.invariant
