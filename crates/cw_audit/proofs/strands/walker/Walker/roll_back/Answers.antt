use Rattle.cw_audit.proofs.strands.walker.Walker.roll_back.Goals as goal

pub returns-then-has_later-clause-stands : goal.returns-then-has_later-clause-stands
returns-then-has_later-clause-stands c = c.go_back.ensures.stands c.args.told.now.task.program.now c.requires.stands

pub returns-else-has_later-clause-stands : goal.returns-else-has_later-clause-stands
returns-else-has_later-clause-stands c = c.stop.ensures.stands c.args.told.now.task.program.now c.requires.stands
