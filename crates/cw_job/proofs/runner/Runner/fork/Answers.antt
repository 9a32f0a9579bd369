use Rattle.std.proofs.Common.{◌∙◌, ap, refl}
use Rattle.cw_strand.specs.Coded.{left}
use Rattle.cw_strand.specs.declared.want.Want.TheVariants.{Fork, Sync}
use Rattle.cw_job.specs.declared.standing.Standing.{Standing}
use Rattle.cw_job.specs.Room.Runners.{IsRunner, state_in}
use Rattle.cw_job.specs.Room.Strands.{StrandState, state_of}
use Rattle.cw_job.proofs.Room.Runs.{at_sync, left_in, ran_to, right_in, wanting}
use Rattle.cw_job.proofs.runner.Runner.fork.Goals as goal

pub returns-clause-left : goal.returns-clause-left
unfolding state_in state_of
returns-clause-left c = λ job same.
    let program = c.args.program.now in
    let x : Standing = record { strand = c.in_ok-strand.strand; want = Sync } in
    let there = ran_to program c.args.self.now c.run.new.self c.in_ok-run.ensures.same c.in_ok-run.ensures.at in
    left_in job program same x (state_in program c.args.self.now) (c.in_ok-strand.ensures.left ∙ ap (λ (a : StrandState). left a.state) there)

pub returns-clause-right : goal.returns-clause-right
unfolding state_in state_of
returns-clause-right c = λ job same.
    let program = c.args.program.now in
    let x : Standing = record { strand = c.fork.new.self; want = c.run.new.self.standing.want } in
    let there = ran_to program c.args.self.now c.run.new.self c.in_ok-run.ensures.same c.in_ok-run.ensures.at in
    right_in job program same x (state_in program c.args.self.now) (c.in_ok-strand.ensures.right ∙ ap (λ (a : StrandState). a.state) there)

pub returns-clause-left_runner : goal.returns-clause-left_runner
unfolding IsRunner
returns-clause-left_runner c =
    let program = c.args.program.now in
    let x : Standing = record { strand = c.in_ok-strand.strand; want = Sync } in
    at_sync program x refl (c.in_ok-strand.ensures.stands program.code (wanting program c.args.self.now c.run.new.self Fork c.in_ok-run.ensures.same c.in_ok-run.ensures.at c.in_ok-run.ensures.runner c.requires.fork))
