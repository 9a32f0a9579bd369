use Rattle.std.proofs.Common.{◌≡◌, [], ap, subst, sym, ◌∙◌}
use Rattle.cw_code.specs.declared.instruction.Code.{Code}
use Rattle.cw_strand.specs.Running.{on, wants, stand}
use Rattle.cw_strand.specs.Coded.{State, runs, step, with_value}
use Rattle.cw_strand.specs.Standing.{StandsWanting, StepStands}
use Rattle.cw_strand.specs.Acting.{led_to}
use Rattle.cw_strand.proofs.Bounding.{bounded}
use Rattle.cw_strand.proofs.Settling.{stand_on, stand_want}
use Rattle.cw_strand.proofs.Standing.{given_stands, step_stands}
use Rattle.cw_strand.proofs.strand.Strand.next.Goals as goal
use Rattle.cw_strand.proofs.strand.Strand.next.Goals.{In-On, In-Wants}

went_on : (c : In-On) → step c.code-code.result.now c.steps.self ≡ on c.step.new.self
went_on c = c.in_ok-step.ensures ∙ ap (λ l. led_to l c.step.new.self) c.in-On.is

came : (c : In-Wants) → step c.code-code.result.now c.steps.self ≡ wants c.in-Wants.want c.step.new.self
came c = c.in_ok-step.ensures ∙ ap (λ l. led_to l c.step.new.self) c.in-Wants.is

pub steps-init : goal.steps-init
steps-init c = record {
  stands = rw (c.code-code.ensures.code, c.in_ok-answer.ensures) (given_stands c.args.program.now.code c.args.given c.args.self.now c.requires);
  same = λ main words limits. ap (λ (s : State). stand (runs c.code-code.result.now main words limits) s) c.in_ok-answer.ensures;
}

pub steps-smaller : goal.steps-smaller
steps-smaller c = (bounded c.code-code.result.now 0 [] c.steps.self.limits c.code-code.ensures.sound).on c.steps.self c.step.new.self (went_on c)

pub steps-preserved : goal.steps-preserved
steps-preserved c =
    let code = c.code-code.result.now in
    record {
      stands = subst (StepStands code) (went_on c) (step_stands code c.code-code.ensures.sound c.steps.self c.steps.invariant.stands);
      same = λ main words limits. sym (stand_on (runs code main words limits) (bounded code main words limits c.code-code.ensures.sound).on c.steps.self c.step.new.self (went_on c)) ∙ c.steps.invariant.same main words limits;
    }

pub returns-in-Wants-clause-next : goal.returns-in-Wants-clause-next
returns-in-Wants-clause-next c = λ main words limits.
    let code = c.code-code.result.now in
    subst (λ (d : Code). record { want = c.in-Wants.want; state = c.step.new.self } ≡ stand (runs d main words limits) (with_value c.args.given c.args.self.now)) c.code-code.ensures.code
    (sym (stand_want (runs code main words limits) (bounded code main words limits c.code-code.ensures.sound).on c.steps.self c.step.new.self c.in-Wants.want (came c)) ∙ c.steps.invariant.same main words limits)

pub returns-in-Wants-clause-stands : goal.returns-in-Wants-clause-stands
returns-in-Wants-clause-stands c =
    let code = c.code-code.result.now in
    subst (λ (d : Code). StandsWanting d c.in-Wants.want c.step.new.self) c.code-code.ensures.code
    (subst (StepStands code) (came c) (step_stands code c.code-code.ensures.sound c.steps.self c.steps.invariant.stands))
