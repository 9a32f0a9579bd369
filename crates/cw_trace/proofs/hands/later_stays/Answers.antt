use Rattle.cw_trace.proofs.ManyHands.Later.{later_with_node, later_with_fork, later_with_inline, later_closed, later_split, later_merged}
use Rattle.cw_trace.proofs.hands.later_stays.Goals as goal

pub returns : goal.returns
returns c = record { node = later_with_node; fork = later_with_fork; inline = later_with_inline; closed = later_closed; split = later_split; merged = later_merged }
