use Rattle.std.proofs.Common.{sym, ◌∙◌}
use Rattle.cw_strand.specs.declared.want.Given.TheVariants.{Back as Wrote}
use Rattle.cw_job.specs.Jobs.{bare_job}
use Rattle.cw_pool.proofs.Tasks.Acting.{acts, acts_last}
use Rattle.cw_pool.proofs.Tasks.Cancelling.{answers_cancel, cancels_in_block, gives_up}
use Rattle.cw_pool.proofs.cancels.cancel_block.Goals as goal

pub cancel-requires-clause-block : goal.cancel-requires-clause-block
cancel-requires-clause-block g c = cancels_in_block _ _ _ _ _ _ _ c.in-Goes.is c.now.invariant (sym (c.in-Some-Cancel.ensures g.J.RunName.job) ∙ c.in-Some-Cancel.field-0-is)

pub answer-requires-clause-answers : goal.answer-requires-clause-answers
answer-requires-clause-answers g c =
    answers_cancel _ _ _ _ _ _ _ c.in-Goes.is c.now.invariant c.in-Ok.back _ c.args.scene.now.cells_of c.in-Ok.ensures.ok.there (sym (c.in-Some-Cancel.ensures (bare_job c.now.inside.body.program)) ∙ c.in-Some-Cancel.field-0-is)

pub invariant_of-now-in-Ok-answer : goal.invariant_of-now-in-Ok-answer
invariant_of-now-in-Ok-answer g c =
    let e = c.in-Ok.ensures.ok in
    acts _ _ _ _ _ _ _ _ _ _ e.stamp (Wrote c.in-Ok.back) c.in-Goes.is c.now.invariant
    (gives_up _ _ _ _ _ _ _ c.in-Goes.is c.now.invariant c.in-Ok.back _ c.args.scene.now.cells_of e.there (sym (c.in-Some-Cancel.ensures g.J.RunName.job) ∙ c.in-Some-Cancel.field-0-is)) e.token
    (c.in-Ok-answer.ensures.ok g.J.RunName.job (sym c.args.scene.now.program_of))

pub invariant_of-now-in-Err : goal.invariant_of-now-in-Err
invariant_of-now-in-Err g c =
    let e = c.in-Ok.ensures.ok in
    acts_last _ _ _ _ _ _ _ _ _ _ _ e.stamp (Wrote c.in-Ok.back) c.in-Goes.is c.now.invariant
    (gives_up _ _ _ _ _ _ _ c.in-Goes.is c.now.invariant c.in-Ok.back _ c.args.scene.now.cells_of e.there (sym (c.in-Some-Cancel.ensures g.J.RunName.job) ∙ c.in-Some-Cancel.field-0-is)) e.token c.halt.ensures
