use Rattle.cw_audit.proofs.TwoBlocks.{two_blocks_tell}
use Rattle.cw_audit.proofs.two_blocks_tell.Goals as goal

pub returns : goal.returns
returns c = two_blocks_tell
