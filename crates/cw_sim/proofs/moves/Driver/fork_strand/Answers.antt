-- The strand's body becomes those of the two strands of its fork.
use Rattle.std.proofs.Common.{◌≡◌, refl, sym, ◌∙◌, arith}
use Rattle.cw_core.specs.Events.{may_fork}
use Rattle.cw_sim.specs.Workers.{with_fork, worker_in}
use Rattle.cw_sim.specs.WorkersInMemory.{workers_of}
use Rattle.cw_sim.specs.declared.moves.Driver.{Driver}
use Rattle.cw_sim.proofs.InMemory.Forks.{body_there, workers_there, body_stands_there, body_forks, fits_here, columns_by, is_left, is_right, forks_come}
use Rattle.cw_sim.proofs.moves.Driver.fork_strand.Goals as goal
use Rattle.cw_sim.proofs.moves.Driver.fork_strand.Goals.{in-Forked, in_default}

pub take-right-requires : goal.take-right-requires
take-right-requires c = body_there c.args.self.now c.args.w c.args.strand c.requires.0 c.requires.1

pub fork-requires-clause-stands : goal.fork-requires-clause-stands
fork-requires-clause-stands c = body_stands_there c.args.self.now c.args.w c.args.strand c.requires.0 c.requires.1 c.take-right.result c.take-right.ensures.thing

pub fork-requires-clause-fork : goal.fork-requires-clause-fork
fork-requires-clause-fork c = body_forks c.args.self.now c.args.w c.args.strand c.requires.0 c.requires.1 c.take-right.result c.take-right.ensures.thing

pub step-requires : goal.step-requires
step-requires c = fits_here c.args.self.now c.args.w c.args.strand c.requires.0 c.requires.1

pub with_run-requires : goal.with_run-requires
with_run-requires c =
    let ws = c.with_fork.new.workers in
    let low = workers_there c.args.self.now c.args.w c.args.strand c.requires.0 c.requires.1 ws.items (with_fork c.match-matches.matches c.next_node-fork.result (worker_in (workers_of c.args.self.now.workers.items) c.args.w)) c.in_ok-with_fork.ensures in
    omega (arith, low, ws.ok.0)

pub returns : goal.returns
returns c = λ z may.
    let s = c.args.self.now in
    let new : Driver = record s { core = c.step.new.self; bodies = c.put-2.new.self; workers = c.with_run.new.workers } in
    let at = c.take-right.ensures.thing in
    let l = c.in-Ok.left in
    let r = c.fork.new.self in
    let by = columns_by s c.args.w c.args.strand z may c.in-Ok-step.reply c.in-Ok-step.ensures.reply in
    let columns : c.match-matches.matches ≡ may_fork z.m.core = elim c.match-matches.branch [
      | in-Forked w ↦ w.matches-is ∙ sym (by.0 w.in-Forked.left w.in-Forked.right w.in-Forked.fork w.in-Forked.is)
      | in_default w ↦ w.matches-is ∙ sym (by.1 w.in_default.not-Forked)
    ] in
    forks_come s c.args.w c.args.strand z may new l r refl c.in-Ok-step.ensures.ok refl c.next_node-fork.result c.next_node-fork.ensures
    c.take-right.new.self c.put.new.self c.take-right.ensures.takes c.in-Ok-put.ensures c.in_ok-put.ensures
    (is_left s c.args.w c.args.strand z may c.take-right.result at l c.in-Ok.ensures.left) (is_right s c.args.w c.args.strand z may c.take-right.result at r c.in-Ok.ensures.right) c.in-Ok.ensures.left_stands c.in-Ok.ensures.right_stands
    c.match-matches.matches columns (workers_of c.with_fork.new.workers.items) c.in_ok-with_fork.ensures c.with_run.ensures
