use Rattle.cw_trace.proofs.Worked.SmallRun.{unready, two_hands, two_loads, drawn_early}
use Rattle.cw_trace.proofs.hands.worked_hands.Goals as goal

pub returns : goal.returns
returns c = record { unready = unready; hands = two_hands; loads = two_loads; early = drawn_early }
