use Rattle.cw_audit.proofs.strands.walker.Walker.end_strand.Goals as goal

pub returns-in_ok-turn-clause-stands : goal.returns-in_ok-turn-clause-stands
returns-in_ok-turn-clause-stands c = c.in_ok-turn.ensures.stands c.args.told.now.task.program.now c.requires.stands
