use Rattle.cw_top.proofs.Commands.{not_answered, runs_another, status_of_run, told_of_run}
use Rattle.cw_top.proofs.top.do_command.Goals as goal

pub returns-in_default-clause-status : goal.returns-in_default-clause-status
returns-in_default-clause-status g c = status_of_run _ _ _ c.args.command (runs_another c.args.command c.in_default.not-Check) c.do_run.ensures.status

pub returns-in_default-clause-answered : goal.returns-in_default-clause-answered
returns-in_default-clause-answered g c = λ h. absurd (not_answered c.do_run.result.kept c.do_run.result.status _ c.args.command (runs_another c.args.command c.in_default.not-Check) h)

pub returns-in_default-clause-written : goal.returns-in_default-clause-written
returns-in_default-clause-written g c = told_of_run _ _ _ _ _ _ _ _ c.args.command (runs_another c.args.command c.in_default.not-Check) c.do_run.ensures.written
