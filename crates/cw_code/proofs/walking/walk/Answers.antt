use Rattle.std.proofs.Common.{rules}
use Rattle.cw_code.proofs.Walked.{more_walked}
use Rattle.cw_code.proofs.walking.walk.Goals as goal

pub loop-n-preserved : goal.loop-n-preserved
loop-n-preserved c =
    let w = more_walked c.args.code.now c.args.func.now c.loop-n.nestings c.step.new.nestings c.loop-n.levels.items c.loop-n.level c.loop-n.n c.step.ensures.grown c.loop-n.invariant.so_far c.loop-n.invariant.low c.loop-n.invariant.here in
    search (rules, w)
