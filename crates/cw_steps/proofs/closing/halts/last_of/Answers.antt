use Rattle.std.proofs.Common.{rules}
use Rattle.cw_steps.proofs.Leaving.Told.{victim_is}
use Rattle.cw_steps.proofs.closing.halts.last_of.Goals as goal

pub returns-in-Some : goal.returns-in-Some
returns-in-Some c = victim_is c.args.conflicts.now c.in-Some.conflict.now (search rules)
