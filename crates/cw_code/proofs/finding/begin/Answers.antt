use Rattle.std.proofs.Common.{rules}
use Rattle.cw_code.proofs.Seen.{more_none}
use Rattle.cw_code.proofs.finding.begin.Goals as goal

pub loop-n-preserved : goal.loop-n-preserved
loop-n-preserved c = let by = more_none c.args.func.now c.loop-n.n in search (rules, by)
