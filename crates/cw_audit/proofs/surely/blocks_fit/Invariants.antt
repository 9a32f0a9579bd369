use Rattle.std.proofs.Common.{ℕ, ◌<◌}
use Rattle.cw_audit.specs.Naming.{BlockFits}
use Rattle.cw_audit.proofs.surely.blocks_fit.Given as goal

abbrev pub invariant-loop-block : goal.invariant-loop-block
invariant-loop-block l = (b : ℕ) → b < l.block → BlockFits l.tree l.first l.cancels l.around b
