use Rattle.cw_job.proofs.Room.Lawful.{closes_of}
use Rattle.cw_record.specs.OneWorker.{unstarted}
use Rattle.cw_record.proofs.OneWorker.AccessesThere.{accesses_there}
use Rattle.cw_record.proofs.OneWorker.Conditions.{wanted_by, over_by, answered_by}
use Rattle.cw_record.proofs.OneWorker.Leaving.{runs_first}
use Rattle.cw_record.proofs.OneWorker.Shaped.{to_come_there}
use Rattle.cw_record.proofs.OneWorker.Turning.{first_fork_there, act_run, fork_run, turn_run, join_run, finish_answer, fault_answer, follow_run, act_ready}
use Rattle.cw_record.proofs.OneWorker.Standings.{act_stands, turn_stands, join_stands}
use Rattle.cw_record.proofs.worker.SoleWorker.run.Goals as goal

pub wants-init : goal.wants-init
wants-init c =
    let e = c.in_ok-worker.ensures in
    (runs_first _ c.in_ok-worker.worker c.requires.compiled e.job e.memory e.outputs e.undo e.drawing e.strand e.branches, e.stands)

-- ## A fork

pub fork-requires-clause-wanted : goal.fork-requires-clause-wanted
fork-requires-clause-wanted c = wanted_by c.wants.worker c.want.ensures c.in-Fork.is

pub fork-requires-clause-stands : goal.fork-requires-clause-stands
fork-requires-clause-stands c = c.wants.invariant.1.strand

pub fork-requires-clause-there : goal.fork-requires-clause-there
fork-requires-clause-there c = let (w, r) = c.wants.invariant.0 in r.draws.built.there

pub wants-preserved-in-Ok : goal.wants-preserved-in-Ok
wants-preserved-in-Ok c =
    let e = c.in-Ok.ensures in
    ((fork_run c.wants.invariant.0.1 (closes_of _ c.requires.compiled c.requires.words) (accesses_there _ c.requires.compiled) e.keeps (wanted_by c.wants.worker c.want.ensures c.in-Fork.is) e.drawing e.left e.right).0, e.stands c.wants.invariant.1.branches)

pub wants-smaller-in-Ok : goal.wants-smaller-in-Ok
wants-smaller-in-Ok c =
    let e = c.in-Ok.ensures in
    (fork_run c.wants.invariant.0.1 (closes_of _ c.requires.compiled c.requires.words) (accesses_there _ c.requires.compiled) e.keeps (wanted_by c.wants.worker c.want.ensures c.in-Fork.is) e.drawing e.left e.right).1

-- ## The end of a strand

pub returns-in-None : goal.returns-in-None
returns-in-None c =
    finish_answer c.wants.invariant.0.1 (closes_of _ c.requires.compiled c.requires.words) (accesses_there _ c.requires.compiled) (over_by c.wants.worker c.want.ensures c.in-Sync.is) c.in-None.ensures.0 c.finish.result c.finish.ensures.drawing c.finish.ensures.end

pub turn-requires : goal.turn-requires
turn-requires c = first_fork_there c.wants.invariant.0.1 c.in-Some-Left.ensures c.in-Some-Left.field-0-is

pub join-requires-clause-there : goal.join-requires-clause-there
join-requires-clause-there c = first_fork_there c.wants.invariant.0.1 c.in-Some-Right.ensures c.in-Some-Right.field-0-is

pub join-requires-clause-stands : goal.join-requires-clause-stands
join-requires-clause-stands c = c.wants.invariant.1.strand

pub wants-preserved-in-Ok-turn : goal.wants-preserved-in-Ok-turn
wants-preserved-in-Ok-turn c =
    let e = c.in-Ok-turn.ensures in
    ((turn_run c.wants.invariant.0.1 (closes_of _ c.requires.compiled c.requires.words) (accesses_there _ c.requires.compiled) c.in-Some-Left.ensures (over_by c.wants.worker c.want.ensures c.in-Sync.is) e.keeps c.in-Some-Left.field-0-is e.drawing e.strand e.branches).0, turn_stands c.wants.worker c.wants.invariant.1 c.in-Some-Left.ensures e.keeps c.in-Some-Left.field-0-is e.strand e.branches)

pub wants-smaller-in-Ok-turn : goal.wants-smaller-in-Ok-turn
wants-smaller-in-Ok-turn c =
    let e = c.in-Ok-turn.ensures in
    (turn_run c.wants.invariant.0.1 (closes_of _ c.requires.compiled c.requires.words) (accesses_there _ c.requires.compiled) c.in-Some-Left.ensures (over_by c.wants.worker c.want.ensures c.in-Sync.is) e.keeps c.in-Some-Left.field-0-is e.drawing e.strand e.branches).1

pub wants-preserved-in-Ok-join : goal.wants-preserved-in-Ok-join
wants-preserved-in-Ok-join c =
    let e = c.in-Ok-join.ensures in
    ((join_run c.wants.invariant.0.1 (closes_of _ c.requires.compiled c.requires.words) (accesses_there _ c.requires.compiled) c.in-Some-Right.ensures (over_by c.wants.worker c.want.ensures c.in-Sync.is) e.keeps c.in-Some-Right.field-0-is e.drawing e.branches e.strand).0, join_stands c.wants.worker c.wants.invariant.1 c.in-Some-Right.ensures e.keeps e.stands e.branches)

pub wants-smaller-in-Ok-join : goal.wants-smaller-in-Ok-join
wants-smaller-in-Ok-join c =
    let e = c.in-Ok-join.ensures in
    (join_run c.wants.invariant.0.1 (closes_of _ c.requires.compiled c.requires.words) (accesses_there _ c.requires.compiled) c.in-Some-Right.ensures (over_by c.wants.worker c.want.ensures c.in-Sync.is) e.keeps c.in-Some-Right.field-0-is e.drawing e.branches e.strand).1

-- ## A fault

pub stop_at_fault-requires-clause-forks : goal.stop_at_fault-requires-clause-forks
stop_at_fault-requires-clause-forks c =
    let (w, r) = c.wants.invariant.0 in
    to_come_there c.wants.worker.drawing.tree (unstarted c.wants.worker.branches) r.draws.shape

pub returns-in-Fault : goal.returns-in-Fault
returns-in-Fault c =
    fault_answer c.wants.invariant.0.1 (closes_of _ c.requires.compiled c.requires.words) (accesses_there _ c.requires.compiled) c.in-Fault.kind (wanted_by c.wants.worker c.want.ensures c.in-Fault.is) c.stop_at_fault.result c.stop_at_fault.ensures.tree c.stop_at_fault.ensures.journals c.stop_at_fault.ensures.end

-- ## A want that is done

pub follow-requires : goal.follow-requires
follow-requires c =
    let (w, r) = c.wants.invariant.0 in
    record { done = follow_run r (closes_of _ c.requires.compiled c.requires.words) (accesses_there _ c.requires.compiled) (answered_by c.wants.worker c.want.ensures c.in-Load.is) }

pub act-requires : goal.act-requires
act-requires c =
    let (w, r) = c.wants.invariant.0 in
    let ready = act_ready r (closes_of _ c.requires.compiled c.requires.words) (accesses_there _ c.requires.compiled) c.follow.new.self c.in-Ok-follow.ensures (answered_by c.wants.worker c.want.ensures c.in-Load.is) c.wants.invariant.1.strand in
    record { there = ready.there; answered = ready.answered; block = ready.block; stands = ready.stands }

pub wants-preserved : goal.wants-preserved
wants-preserved c =
    let e = c.in-Ok-act.ensures in
    let follows = c.in-Ok-follow.ensures in (
      (act_run c.wants.invariant.0.1 (closes_of _ c.requires.compiled c.requires.words) (accesses_there _ c.requires.compiled) c.follow.new.self c.act.new.self (answered_by c.wants.worker c.want.ensures c.in-Load.is)
          (record { follows = follows; done = e.acts; strand = e.strand })).0,
      act_stands c.wants.worker c.wants.invariant.1 c.follow.new.self c.act.new.self follows e.acts e.stands,
    )

pub wants-smaller : goal.wants-smaller
wants-smaller c =
    let e = c.in-Ok-act.ensures in
    (act_run c.wants.invariant.0.1 (closes_of _ c.requires.compiled c.requires.words) (accesses_there _ c.requires.compiled) c.follow.new.self c.act.new.self (answered_by c.wants.worker c.want.ensures c.in-Load.is)
    (record { follows = c.in-Ok-follow.ensures; done = e.acts; strand = e.strand })).1
