-- What is left is that of a closed run of the job.
use Rattle.std.proofs.Common.{IfOk, rules}
use Rattle.cw_record.specs.Records.{job_of_record}
use Rattle.cw_sim.specs.Runs.{IsRecordOf, simulation_of}
use Rattle.cw_job.specs.Jobs.{Job}
use Rattle.cw_sim.proofs.OneWorker.Records.{built_unrefused}
use Rattle.cw_sim.proofs.OneWorker.DepthFirst.{built_depth_first}
use Rattle.cw_sim.proofs.InMemory.Records.{moved_same, closed_has_record, built_coherent, built_numbered, built_replays, built_spent}
use Rattle.cw_sim.proofs.simulating.simulate.Goals as goal

pub build-requires : goal.build-requires
build-requires c =
    let job : Job = record { program = c.args.program; words = c.args.words; limits = c.args.limits } in
    let to = c.in_ok-closed in
    let is = moved_same c.args.program c.args.limits c.as_slice.result.now c.args.words c.args.workers c.args.schedule.now to.closed to.spent c.as_slice.ensures (record { closed = to.ensures.closed; spends = to.ensures.spent; few = to.ensures.few }) in
    closed_has_record job c.args.workers c.args.schedule.now c.requires.compiled c.requires.words c.requires.strands c.requires.workers c.requires.listed to.closed to.spent is

pub returns-clause-coherent : goal.returns-clause-coherent
returns-clause-coherent c =
    let job : Job = record { program = c.args.program; words = c.args.words; limits = c.args.limits } in
    let to = c.in_ok-closed in
    let is = moved_same c.args.program c.args.limits c.as_slice.result.now c.args.words c.args.workers c.args.schedule.now to.closed to.spent c.as_slice.ensures (record { closed = to.ensures.closed; spends = to.ensures.spent; few = to.ensures.few }) in
    built_coherent job c.args.workers c.args.schedule.now c.requires.compiled c.requires.words c.requires.strands c.requires.workers c.requires.listed to.closed to.spent is c.build.result c.build.ensures.coherent

pub returns-clause-numbered : goal.returns-clause-numbered
returns-clause-numbered c =
    let job : Job = record { program = c.args.program; words = c.args.words; limits = c.args.limits } in
    let to = c.in_ok-closed in
    let is = moved_same c.args.program c.args.limits c.as_slice.result.now c.args.words c.args.workers c.args.schedule.now to.closed to.spent c.as_slice.ensures (record { closed = to.ensures.closed; spends = to.ensures.spent; few = to.ensures.few }) in
    built_numbered job c.args.workers c.args.schedule.now c.requires.compiled c.requires.words c.requires.strands c.requires.workers c.requires.listed to.closed to.spent is c.build.result c.build.ensures.numbered

pub returns-clause-replays : goal.returns-clause-replays
returns-clause-replays c =
    let job : Job = record { program = c.args.program; words = c.args.words; limits = c.args.limits } in
    let to = c.in_ok-closed in
    let is = moved_same c.args.program c.args.limits c.as_slice.result.now c.args.words c.args.workers c.args.schedule.now to.closed to.spent c.as_slice.ensures (record { closed = to.ensures.closed; spends = to.ensures.spent; few = to.ensures.few }) in
    let coherent = built_coherent job c.args.workers c.args.schedule.now c.requires.compiled c.requires.words c.requires.strands c.requires.workers c.requires.listed to.closed to.spent is c.build.result c.build.ensures.coherent in
    built_replays c.args.program c.args.words c.requires.compiled c.requires.words c.build.result c.build.ensures.program c.build.ensures.words coherent c.build.ensures.outputs c.build.ensures.order

pub returns-clause-spent : goal.returns-clause-spent
returns-clause-spent c =
    let is : IfOk c.build.result (λ r. IsRecordOf (simulation_of (job_of_record r) c.args.workers c.args.schedule.now) r) = search rules in
    built_spent c.args.workers c.args.schedule.now c.build.result is

pub returns-clause-one_worker : goal.returns-clause-one_worker
returns-clause-one_worker c =
    let is : IfOk c.build.result (λ r. IsRecordOf (simulation_of (job_of_record r) c.args.workers c.args.schedule.now) r) = search rules in
    built_unrefused c.args.program c.args.words c.args.limits c.args.workers c.args.schedule.now c.requires.compiled c.requires.words c.requires.strands c.requires.listed c.build.result c.build.ensures.program c.build.ensures.words c.build.ensures.limits is

pub returns-clause-depth_first : goal.returns-clause-depth_first
returns-clause-depth_first c =
    let to = c.in_ok-closed in
    let moved = moved_same c.args.program c.args.limits c.as_slice.result.now c.args.words c.args.workers c.args.schedule.now to.closed to.spent c.as_slice.ensures (record { closed = to.ensures.closed; spends = to.ensures.spent; few = to.ensures.few }) in
    let is : IfOk c.build.result (λ r. IsRecordOf (simulation_of (job_of_record r) c.args.workers c.args.schedule.now) r) = search rules in
    built_depth_first c.args.program c.args.words c.args.limits c.args.workers c.args.schedule.now c.requires.compiled c.requires.words c.requires.strands c.requires.listed moved.few c.build.result c.build.ensures.program c.build.ensures.words c.build.ensures.limits is c.build.ensures.outputs
