use Rattle.std.proofs.Common.{refl}
use Rattle.cw_job.specs.Jobs.{Job}
use Rattle.cw_serial.specs.StrandTree.{goes_on}
use Rattle.cw_job.specs.Room.Strands.{state_of, strands_of_job}
use Rattle.cw_serial.proofs.RootAlone.{root_comes}
use Rattle.cw_serial.proofs.table.Table+Standing.of_main.Goals as goal

pub returns-clause-holds : goal.returns-clause-holds
returns-clause-holds c =
    let job : Job = record { program = c.args.program.now; words = c.args.words.now; limits = c.args.limits } in
    let s = strands_of_job job in
    c.in_ok-settle.ensures.strands job refl (goes_on s 0 s.start)
    (root_comes s state_of (record { names = c.new.result; rows = c.new-2.result }) c.start-2.new.self c.in_ok-strand.strand s.start c.new.ensures.items c.new-2.ensures.items c.in_ok-start.ensures c.in_ok-strand.ensures.start)
