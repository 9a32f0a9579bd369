-- From move to move.
use Rattle.std.proofs.Common.{refl}
use Rattle.cw_job.specs.Jobs.{job_of_task}
use Rattle.cw_sim.proofs.InMemory.Runs.{z, is_opened, along_next, may_move, comes_next, ends_over}
use Rattle.cw_sim.proofs.moves.Driver.run.Goals as goal

pub loop-n-init : goal.loop-n-init
loop-n-init c =
    let job = job_of_task c.args.self.now.task in
    let turns = c.args.turns.now in
    let r = c.requires in
    (is_opened job turns.workers turns.schedule.now c.args.self.now r.strands r.turns.workers r.stands, record { at = r.turns; schedule_same = refl; workers_same = refl })

pub is_over-requires : goal.is_over-requires
is_over-requires c =
    let turns = c.args.turns.now in
    let is = c.loop-n.invariant.0 in
    (z (job_of_task c.args.self.now.task) turns.workers turns.schedule.now c.loop-n.self c.loop-n.n is, is.stands)

pub make_move-requires : goal.make_move-requires
make_move-requires c =
    let job = job_of_task c.args.self.now.task in
    let turns = c.args.turns.now in
    let now = c.loop-n in
    let is = now.invariant.0 in
    let w = c.worker_at-w in (
      z job turns.workers turns.schedule.now now.self now.n is,
      may_move job turns.workers turns.schedule.now now.self now.n is c.is_over.result c.is_over.ensures c.requires.compiled c.requires.words c.if-is_over.false now.turns now.invariant.1
          w.result w.ensures.worker w.ensures.low,
    )

pub loop-n-preserved : goal.loop-n-preserved
loop-n-preserved c =
    let job = job_of_task c.args.self.now.task in
    let turns = c.args.turns.now in
    let now = c.loop-n in
    let is = now.invariant.0 in
    let w = c.worker_at-w in
    let may =
    may_move job turns.workers turns.schedule.now now.self now.n is c.is_over.result c.is_over.ensures c.requires.compiled c.requires.words c.if-is_over.false now.turns now.invariant.1
    w.result w.ensures.worker w.ensures.low in (
      comes_next job turns.workers turns.schedule.now now.self now.n is c.is_over.result c.is_over.ensures c.requires.compiled c.requires.words c.if-is_over.false now.turns now.invariant.1
          w.result w.ensures.worker w.ensures.low c.make_move.new.self c.loop-n-test.true (c.in_ok-make_move.ensures (z job turns.workers turns.schedule.now now.self now.n is) may),
      along_next job turns.workers turns.schedule.now now.turns w.new.self now.n now.invariant.1 w.ensures.at w.ensures.schedule w.ensures.workers,
    )

pub returns-then-is_over : goal.returns-then-is_over
returns-then-is_over c =
    let turns = c.args.turns.now in
    ends_over (job_of_task c.args.self.now.task) turns.workers turns.schedule.now c.loop-n.self c.loop-n.n c.loop-n.invariant.0 c.is_over.result c.is_over.ensures c.if-is_over.true
