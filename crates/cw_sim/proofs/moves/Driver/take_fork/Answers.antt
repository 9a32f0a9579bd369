-- There is a fork to take; its split fits; its right strand is a node; and the workers are as the definition says.
use Rattle.std.proofs.Common.{arith}
use Rattle.cw_sim.proofs.InMemory.Takes.{some_taken, split_fits, right_there, still_there, taken_comes}
use Rattle.cw_sim.proofs.moves.Driver.take_fork.Goals as goal

pub unreachable-requires : goal.unreachable-requires
unreachable-requires c =
    some_taken c.args.self.now c.args.w c.args.v c.requires.0 c.requires.1 c.take_oldest.result c.take_oldest.new.workers.items c.take_oldest.ensures c.in_default.not-Some

pub step-requires : goal.step-requires
step-requires c =
    split_fits c.args.self.now c.args.w c.args.v c.requires.0 c.requires.1 c.take_oldest.result c.take_oldest.new.workers.items c.take_oldest.ensures c.in-Some.fork c.in-Some.is

pub overflow_add-fork : goal.overflow_add-fork
overflow_add-fork c =
    let low =
    right_there c.args.self.now c.args.w c.args.v c.requires.0 c.requires.1 c.take_oldest.result c.take_oldest.new.workers.items c.take_oldest.ensures c.in-Some.fork c.in-Some.is
    c.step.new.self c.in_ok-step.ensures.ok in
    omega (arith, low, c.hint.ensures)

pub with_run-requires : goal.with_run-requires
with_run-requires c =
    let low = still_there c.args.self.now c.args.w c.args.v c.requires.0 c.requires.1 c.take_oldest.result c.take_oldest.new.workers.items c.take_oldest.ensures in
    omega (arith, low, c.take_oldest.new.workers.ok.0)

pub returns : goal.returns
returns c z may =
    taken_comes c.args.self.now c.args.w c.args.v z may c.take_oldest.result c.take_oldest.new.workers.items c.take_oldest.ensures c.in-Some.fork c.in-Some.is
    c.step.new.self (record c.args.self.now { workers = c.with_run.new.workers }) c.in_ok-step.ensures.ok c.step.ensures.stands c.with_run.ensures
