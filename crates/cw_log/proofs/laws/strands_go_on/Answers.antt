use Rattle.cw_log.proofs.Going.{after_nodes, in_blocks, behind_blocks, both}
use Rattle.cw_log.proofs.laws.strands_go_on.Goals as goal

pub returns-clause-nodes : goal.returns-clause-nodes
returns-clause-nodes g = after_nodes

pub returns-clause-blocks : goal.returns-clause-blocks
returns-clause-blocks g = in_blocks

pub returns-clause-behind : goal.returns-clause-behind
returns-clause-behind g = behind_blocks

pub returns-clause-both : goal.returns-clause-both
returns-clause-both g = both
