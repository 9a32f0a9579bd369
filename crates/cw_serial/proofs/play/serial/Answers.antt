use Rattle.std.proofs.Common.{◌≡◌, ◌≤◌, ◌∙◌, ap, length, arith}
use Rattle.std.proofs.lemmas.Result.{IfOk-weaker}
use Rattle.cw_job.specs.Jobs.{Job}
use Rattle.cw_job.specs.Room.Strands.{strands_of_job}
use Rattle.cw_serial.specs.Machine.{machine_shows}
use Rattle.cw_serial.proofs.Played.{plays_on, stuck_at, shown_at}
use Rattle.cw_serial.proofs.play.serial.Goals as goal

pub returns-then-not-branch : goal.returns-then-not-branch
returns-then-not-branch c =
    let job : Job = record { program = c.args.program.now; words = c.args.words.now; limits = c.args.limits } in
    stuck_at job c.args.picks.now c.loop-place.play c.pick.new.self c.loop-place.place c.at-name.result.now c.at-name.ensures c.loop-place.invariant.0 (rw c.if-not-branch.true at c.in_ok-pick.ensures.picks)

pub loop-place-preserved : goal.loop-place-preserved
loop-place-preserved c =
    let job : Job = record { program = c.args.program.now; words = c.args.words.now; limits = c.args.limits } in
    (plays_on job c.args.picks.now c.loop-place.play c.pick.new.self c.loop-place.place c.at-name.result.now c.at-name.ensures c.loop-place.invariant.0 (rw c.if-not-branch.false at c.in_ok-pick.ensures.picks), c.in_ok-pick.ensures.runs)

pub returns : goal.returns
returns c =
    let job : Job = record { program = c.args.program.now; words = c.args.words.now; limits = c.args.limits } in
    let played = c.loop-place.invariant.0 in
    let all : length c.args.picks.now.list ≤ c.loop-place.place = omega (arith, c.in-Ok.ensures, c.len.ensures) in
    let count : c.in-Ok.count ≡ c.loop-place.place = omega arith in
    let names = c.args.picks.now.names in
    IfOk-weaker c.end.result _ _ (λ e says. shown_at job c.args.picks.now c.loop-place.play c.loop-place.place e all played (says job names played.machine played.is ∙ ap (machine_shows (strands_of_job job) played.machine names c.args.picks.now.last) count)) c.end.ensures
