use Rattle.std.proofs.Common.{◌≡◌, ◌∙◌, Bool, true, false, sym}
use Rattle.cw_top.proofs.CommandRuns.{one_worker}
use Rattle.cw_top.proofs.Statuses.{telling_cause}
use Rattle.cw_top.proofs.Told.{sure}
use Rattle.cw_top.proofs.top.do_run.Goals as goal

both : (b : Bool) → b ≡ true → b ≡ false → ⊥
both b e h = cc

-- what is not done by several threads is not looked at
pub reply_to-requires-clause-sure : goal.reply_to-requires-clause-sure
reply_to-requires-clause-sure g c = λ few. sure c.args.command _ c.requires.ready c.in-Ok.ensures.done (λ h. both c.has_several_threads-is_unsure.result (c.has_several_threads-is_unsure.ensures.1 h) few)

-- races are written of one worker's run alone
pub reply_to-requires-clause-one : goal.reply_to-requires-clause-one
reply_to-requires-clause-one g c = λ is. one_worker c.args.command _ c.in-Ok.ensures.done (sym c.telling_of-telling.ensures ∙ is)

pub returns-in-Ok-clause-cause : goal.returns-in-Ok-clause-cause
returns-in-Ok-clause-cause g c = telling_cause c.args.command c.reply_to.result.note _ _ _ c.reply_to.ensures.cause
