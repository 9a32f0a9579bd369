use Rattle.cw_trace.proofs.ManyHands.Running.{each_moment_stands, others_go_on}
use Rattle.cw_trace.proofs.Worked.WaitingRun.{main_waits}
use Rattle.cw_trace.proofs.hands.order_is_kept.Goals as goal

pub returns : goal.returns
returns c = record { stands = each_moment_stands; others = others_go_on; row = main_waits }
