use Rattle.cw_steps.specs.Leaving.{logs_of_track}
use Rattle.cw_steps.proofs.Leaving.Told.{budget_is, fault_is}
use Rattle.cw_steps.proofs.closing.halts.number_halt.Goals as goal

pub returns-in_ok-strand-in-Fault : goal.returns-in_ok-strand-in-Fault
returns-in_ok-strand-in-Fault c =
    let all = logs_of_track c.args.track.now in
    let n = c.in_ok-strand-in-Fault in
    fault_is all c.args.stop n.strand (n.ensures all c.requires.bases) c.in-Fault.strand c.in-Fault.kind c.in-Fault.is

pub returns-in_ok-strand-in-Budget : goal.returns-in_ok-strand-in-Budget
returns-in_ok-strand-in-Budget c =
    let all = logs_of_track c.args.track.now in
    let n = c.in_ok-strand-in-Budget in
    budget_is all c.args.stop n.strand (n.ensures all c.requires.bases) c.in-Budget.strand c.last_victim-victim.result c.spender.result c.args.tree.now c.in-Budget.is c.requires.tree c.last_victim-victim.ensures c.spender.ensures
