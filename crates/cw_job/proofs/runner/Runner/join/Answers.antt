use Rattle.std.proofs.Common.{◌∙◌, ap, refl}
use Rattle.cw_strand.specs.Coded.{joined}
use Rattle.cw_strand.specs.declared.want.Want.TheVariants.{Sync}
use Rattle.cw_job.specs.declared.standing.Standing.{Standing}
use Rattle.cw_job.specs.Room.Runners.{IsRunner, place_of, state_in}
use Rattle.cw_job.specs.Room.Strands.{IsOf, StrandState, state_of}
use Rattle.cw_job.proofs.Room.Runs.{at_sync, joined_as, joined_in, ran_to}
use Rattle.cw_job.proofs.runner.Runner.join.Goals as goal

pub returns-clause-joined : goal.returns-clause-joined
unfolding state_in state_of
returns-clause-joined c = λ job same.
    let program = c.args.program.now in
    let x : Standing = record { strand = c.joined.new.self; want = Sync } in
    let there = ran_to program c.args.self.now c.run.new.self c.in_ok-run.ensures.same c.in_ok-run.ensures.at in
    joined_in job program same x (state_in program c.args.self.now) (state_of c.args.left) (c.joined.ensures.joined ∙ ap (λ (a : StrandState). joined a.state c.args.left.strand) there)

pub returns-clause-runner : goal.returns-clause-runner
unfolding IsRunner IsOf
returns-clause-runner c =
    let program = c.args.program.now in
    let x : Standing = record { strand = c.joined.new.self; want = Sync } in
    at_sync program x refl (c.joined.ensures.stands program.code c.in_ok-run.ensures.runner.stands)

pub returns-clause-place : goal.returns-clause-place
unfolding state_of place_of
returns-clause-place c =
    let program = c.args.program.now in
    let x : Standing = record { strand = c.joined.new.self; want = Sync } in
    let there = ran_to program c.args.self.now c.run.new.self c.in_ok-run.ensures.same c.in_ok-run.ensures.at in
    joined_as x (state_in program c.args.self.now) c.args.left.strand (c.joined.ensures.joined ∙ ap (λ (a : StrandState). joined a.state c.args.left.strand) there)
