use Rattle.std.proofs.Common.{rules, ℕ, ap, sym, ◌∙◌, subst, SFits, w64}
use Rattle.std.specs.Prelude.{◌<◌}
use Rattle.std.proofs.lemmas.Int.{to_z-of_z}
use Rattle.cw_strand.specs.declared.want.Want.{Want}
use Rattle.cw_strand.specs.declared.want.Given.{Given}
use Rattle.cw_job.specs.Jobs.{bare_job}
use Rattle.cw_log.specs.declared.board.Access.{Access}
use Rattle.cw_log.specs.Answers.{Meets}
use Rattle.cw_body.specs.Bodies.{AnswersAct, elements_of}
use Rattle.cw_pool.specs.Accesses.{access_want}
use Rattle.cw_strand.specs.Strands.{given_for}
use Rattle.cw_pool.proofs.Tasks.Refusing.{cell_there, answers_act, made_so, made_last, refused_so, victim_there}
use Rattle.cw_pool.proofs.access.access_cell.Goals as goal

pub access-requires-clause-cell : goal.access-requires-clause-cell
access-requires-clause-cell g c =
    subst (λ (n : ℕ). c.in-Some-access_of.cell < n) (sym c.args.scene.now.cells_of)
    (cell_there _ _ _ _ _ _ _ c.in-Some-access_of.cell c.in-Some-access_of.write c.in-Goes.is c.now.invariant (sym (c.in-Some.ensures g.J.RunName.job) ∙ c.in-Some-access_of.ensures))

pub answer-requires-clause-answers : goal.answer-requires-clause-answers
answer-requires-clause-answers g c =
    let n = elements_of c.now.inside.body in
    subst (λ (w : Want). AnswersAct n w c.of_access.result) (sym (sym (c.in-Some.ensures (bare_job c.now.inside.body.program)) ∙ c.in-Some-access_of.ensures))
    (subst (λ (y : Given). AnswersAct n (access_want c.in-Some-access_of.cell c.in-Some-access_of.write) y) (sym c.of_access.ensures) (answers_act n c.in-Some-access_of.cell c.in-Some-access_of.write _))

pub mode_after_conflict-now-inside-requires-clause-victim : goal.mode_after_conflict-now-inside-requires-clause-victim
mode_after_conflict-now-inside-requires-clause-victim g c lives within =
    let (cell, asker, around, refused_now) = subst (λ (a : Access). Meets (g.B.SharedBoard.of c.now.inside.token) (g.B.SharedBoard.of c.access.new.token) c.in-Some-access_of.cell c.in-Some-access_of.write a) c.in-Conflict.is c.in-Ok.ensures.ok in
    victim_there _ _ _ _ _ _ _ _ c.in-Conflict.conflict c.now.invariant around refused_now

pub invariant_of-now-in-Ok-answer : goal.invariant_of-now-in-Ok-answer
invariant_of-now-in-Ok-answer g c =
    let (w, (stamp, made_now)) = subst (λ (a : Access). Meets (g.B.SharedBoard.of c.now.inside.token) (g.B.SharedBoard.of c.access.new.token) c.in-Some-access_of.cell c.in-Some-access_of.write a) c.in-Value.is c.in-Ok.ensures.ok in
    let signed : SFits w64 c.in-Value.value = search rules in
    made_so _ _ _ _ _ _ _ _ _ c.in-Some-access_of.cell c.in-Some-access_of.write c.in-Value.value stamp _ c.in-Goes.is c.now.invariant (sym (c.in-Some.ensures g.J.RunName.job) ∙ c.in-Some-access_of.ensures) w made_now
    (c.of_access.ensures ∙ ap (λ v. given_for c.in-Some-access_of.write v) (to_z-of_z w64 c.in-Value.value signed)) (c.in-Ok-answer.ensures.ok g.J.RunName.job (sym c.args.scene.now.program_of))

pub invariant_of-now-in-Err : goal.invariant_of-now-in-Err
invariant_of-now-in-Err g c =
    let (w, (stamp, made_now)) = subst (λ (a : Access). Meets (g.B.SharedBoard.of c.now.inside.token) (g.B.SharedBoard.of c.access.new.token) c.in-Some-access_of.cell c.in-Some-access_of.write a) c.in-Value.is c.in-Ok.ensures.ok in
    made_last _ _ _ _ _ _ _ _ _ _ c.in-Some-access_of.cell c.in-Some-access_of.write c.in-Value.value stamp c.in-Goes.is c.now.invariant (sym (c.in-Some.ensures g.J.RunName.job) ∙ c.in-Some-access_of.ensures) w made_now c.halt.ensures

pub invariant_of-now-in-Conflict : goal.invariant_of-now-in-Conflict
invariant_of-now-in-Conflict g c =
    let (cell, asker, around, refused_now) = subst (λ (a : Access). Meets (g.B.SharedBoard.of c.now.inside.token) (g.B.SharedBoard.of c.access.new.token) c.in-Some-access_of.cell c.in-Some-access_of.write a) c.in-Conflict.is c.in-Ok.ensures.ok in
    refused_so _ _ _ _ _ _ _ _ _ _ _ c.in-Conflict.conflict c.in-Some-access_of.cell c.in-Some-access_of.write c.in-Goes.is c.now.invariant (sym (c.in-Some.ensures g.J.RunName.job) ∙ c.in-Some-access_of.ensures)
    (sym (c.in-Some.ensures (bare_job c.now.inside.body.program)) ∙ c.in-Some-access_of.ensures) cell refused_now c.mode_after_conflict-now-inside.ensures
