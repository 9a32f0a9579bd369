use Rattle.std.proofs.Common.{◌∙◌, sym}
use Rattle.cw_serial.proofs.Ordered.{descends_named, descends_none, descends_more}
use Rattle.cw_serial.proofs.orders.Known.descend.Goals as goal

pub returns-in_default-name-clause-found : goal.returns-in_default-name-clause-found
returns-in_default-name-clause-found c = descends_named c.args.machine.now c.args.self.now c.loop-at.self c.args.number c.loop-at.above c.args.todo c.loop-at.todo c.pop.new.self c.in-Some.at c.in-Some.ensures c.loop-at.invariant (sym c.name.ensures ∙ c.in_default-name.is)

pub returns-in_default-started-clause-found : goal.returns-in_default-started-clause-found
returns-in_default-started-clause-found c = descends_none c.args.machine.now c.args.self.now c.loop-at.self c.args.number c.loop-at.above c.args.todo c.loop-at.todo c.pop.new.self c.in-Some.at c.in-Some.ensures c.loop-at.invariant c.in-Some-name.name (sym c.name.ensures ∙ c.in-Some-name.is) (sym c.started.ensures ∙ c.in_default-started.is)

pub loop-at-preserved : goal.loop-at-preserved
loop-at-preserved c = descends_more c.args.machine.now c.args.self.now c.loop-at.self c.args.number c.loop-at.above c.args.todo c.loop-at.todo c.pop.new.self c.in-Some.at c.in-Some.ensures c.loop-at.invariant c.in-Some-name.name c.in-Some-started.started c.note.new.self (sym c.name.ensures ∙ c.in-Some-name.is) (sym c.started.ensures ∙ c.in-Some-started.is) c.note.ensures.order c.note.ensures.numbers
