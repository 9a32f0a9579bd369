-- What is robbed in memory is what the definition robs.
use Rattle.std.proofs.lemmas.Result.{on_ok_weaker}
use Rattle.cw_sim.proofs.InMemory.Takes.{may_take, stolen, none_stolen}
use Rattle.cw_sim.proofs.moves.Driver.steal.Goals as goal

pub take_fork-requires : goal.take_fork-requires
take_fork-requires c =
    (c.requires.0, may_take c.args.self.now c.args.w c.requires.0 c.requires.1 c.as_slice.result.now c.as_slice.ensures.value c.worker_to_rob.result c.worker_to_rob.ensures c.in-Some.v c.in-Some.is)

pub returns-in-Some : goal.returns-in-Some
returns-in-Some c =
    on_ok_weaker c.take_fork.result
    (λ comes z may. stolen c.args.self.now c.args.w z may c.as_slice.result.now c.as_slice.ensures.value c.worker_to_rob.result c.worker_to_rob.ensures c.in-Some.v c.in-Some.is c.take_fork.new.self (comes z))
    c.take_fork.ensures

pub returns-in-None : goal.returns-in-None
returns-in-None c z may = none_stolen c.args.self.now c.args.w z may c.as_slice.result.now c.as_slice.ensures.value c.worker_to_rob.result c.worker_to_rob.ensures c.in-None.is
