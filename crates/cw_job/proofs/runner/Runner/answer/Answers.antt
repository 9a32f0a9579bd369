use Rattle.std.proofs.Common.{◌∙◌, ap, sym}
use Rattle.cw_job.specs.declared.runner.Runner.{Runner}
use Rattle.cw_job.specs.Room.Runners.{IsAt, place_of}
use Rattle.cw_job.specs.Room.Strands.{strands_of_job}
use Rattle.cw_job.proofs.Room.Runs.{at_state, ran_to}
use Rattle.cw_job.proofs.runner.Runner.answer.Goals as goal

pub returns-clause-answer : goal.returns-clause-answer
unfolding IsAt
returns-clause-answer c = λ job same.
    let program = c.args.program.now in
    let x : Runner = record { standing = c.answer.new.self; is_on_way = c.run.new.self.is_on_way } in
    at_state program x c.in_ok-run.ensures.at
    ∙ (c.in_ok-answer.ensures.answer job same ∙ ap (λ a. (strands_of_job job).answer a c.args.given) (ran_to program c.args.self.now c.run.new.self c.in_ok-run.ensures.same c.in_ok-run.ensures.at))

pub returns-clause-place : goal.returns-clause-place
unfolding IsAt place_of
returns-clause-place c =
    let x : Runner = record { standing = c.answer.new.self; is_on_way = c.run.new.self.is_on_way } in
    sym (at_state c.args.program.now x c.in_ok-run.ensures.at)
