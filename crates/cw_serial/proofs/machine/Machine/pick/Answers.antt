use Rattle.std.proofs.Common.{◌∙◌, ◌++◌, refl, sym, ap}
use Rattle.cw_job.specs.Jobs.{bare_job}
use Rattle.cw_serial.proofs.Picked.{picked, not_inside, not_done, none_stands, unknown_wants}
use Rattle.cw_serial.proofs.machine.Machine.pick.Goals as goal

pub returns-in_default-clause-picks : goal.returns-in_default-clause-picks
returns-in_default-clause-picks c = λ job m q same is up. none_stands job c.args.self.now m is c.args.strand q up (sym (c.want.ensures job) ∙ c.in_default.is)

pub returns-then-not-may_pick-clause-picks : goal.returns-then-not-may_pick-clause-picks
returns-then-not-may_pick-clause-picks c = λ job m q same is up.
    not_inside job c.args.self.now m is c.args.strand q up c.in-Some.want (sym (c.want.ensures job) ∙ c.in-Some.is) (sym (c.may_pick.ensures job m q is up) ∙ c.if-not-may_pick.true)

pub returns-in_default-2-clause-picks : goal.returns-in_default-2-clause-picks
returns-in_default-2-clause-picks c = λ job m q same is up.
    not_done job c.args.self.now m is c.args.strand q up c.in-Some.want (sym (c.want.ensures job) ∙ c.in-Some.is) c.do_want.new.self (rw c.in_default-2.is at c.in_ok-given.ensures)

pub returns-clause-picks : goal.returns-clause-picks
returns-clause-picks c = λ job m q same is up.
    picked job c.args.self.now m is c.args.strand q up c.in-Some.want (sym (c.want.ensures job) ∙ c.in-Some.is) c.in-Some-2.given c.do_want.new.self _ c.answer.new.self (sym (c.may_pick.ensures job m q is up) ∙ c.if-not-may_pick.false) (rw c.in-Some-2.is at c.in_ok-given.ensures) (c.in_ok-answer.ensures.answers job same) refl refl refl (c.in_ok-settle.ensures.strands job same) c.in_ok-settle.ensures.names

pub returns-clause-unknown : goal.returns-clause-unknown
returns-clause-unknown c = λ job m is past. absurd (let e = sym c.in-Some.is ∙ (c.want.ensures job ∙ unknown_wants job c.args.self.now m is c.args.strand past) in cc)

pub returns-clause-names : goal.returns-clause-names
returns-clause-names c =
    let done = rw c.in-Some-2.is at c.in_ok-given.ensures in
    let answered = c.in_ok-answer.ensures.answers (bare_job c.args.program.now) refl in
    let (rest, more) = c.in_ok-settle.ensures.names in
    (rest, more ∙ ap (λ ns. ns ++ rest) (ap (λ v. v.items) (answered.back.names ∙ answered.gone.names) ∙ ap (λ t. t.names.items) done.strands))
