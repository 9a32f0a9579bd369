use Rattle.cw_job.specs.Jobs.{Job}
use Rattle.cw_job.specs.Room.Strands.{StrandState}
use Rattle.cw_serial.proofs.Working.{WorkerState}
use Rattle.cw_record.specs.OneWorker.{AllStand}
use Rattle.cw_record.proofs.OneWorker.Running.{Runs, left_to_do}
use Rattle.cw_record.proofs.worker.SoleWorker.run.Given as goal

abbrev pub invariant-wants : goal.invariant-wants
invariant-wants l =
    let job : Job = record { program = l.program; words = l.words; limits = l.fn.limits } in
    ((w : WorkerState StrandState) × Runs job l.worker w) × AllStand l.worker

abbrev pub decreases-wants : goal.decreases-wants
decreases-wants l = left_to_do l.worker
