use Rattle.std.proofs.Common.{◌≡◌, ap, ◌∙◌, subst}
use Rattle.std.specs.Prelude.{slice_get, Result, Ok, Err, IfOk, Option}
use Rattle.cw_base.specs.declared.memory.OutOfMemory.{OutOfMemory}
use Rattle.cw_code.specs.declared.instruction.CodeFault.{CodeFault}
use Rattle.cw_code.specs.Table.{Effect}
use Rattle.cw_code.specs.Rules.{earliest, effect_of, operand_faults, situation_faults, faults_at, known_at}
use Rattle.cw_code.specs.Nested.{seen, situation_at}
use Rattle.cw_code.proofs.Seen.{place_judged}
use Rattle.cw_code.proofs.finding.judge_place.Goals as goal

pub returns-in-Some-kept-clause-first : goal.returns-in-Some-kept-clause-first
returns-in-Some-kept-clause-first c =
    let f = c.args.func.now in
    let code = c.args.code.now in
    let p = c.args.place in
    let i = c.in-Some.instr in
    let best = c.args.best in
    let t = seen c.args.nestings.now c.args.places.now in
    let s = situation_at c.args.nestings.now c.in-Some-kept.level in
    let one = c.operand-best.ensures ∙ ap (λ (e : Option Effect). earliest best (operand_faults code f p i e)) c.effect_at-effect.ensures in
    let two = subst (λ (e : Option Effect). IfOk c.judge_level.result (λ r. r ≡ earliest c.operand-best.result (situation_faults code f t p i e s))) c.effect_at-effect.ensures c.judge_level.ensures.first in
    let M : Result (Option CodeFault) OutOfMemory → Type 0 = λ r. IfOk r (λ x. x ≡ earliest c.operand-best.result (situation_faults code f t p i (effect_of i) s))
    → IfOk r (λ x. x ≡ earliest best (faults_at code f t p (slice_get code.instrs p) (known_at f t p))) in
    elim c.judge_level.result as M [
      | Ok r ↦ λ h. place_judged code f p c.args.nestings.now c.args.places.now i c.in-Some-kept.level best c.operand-best.result r (slice_get code.instrs p) c.in-Some.ensures c.in-Some-kept.ensures one h
      | Err e ↦ λ h. tt
    ] two
