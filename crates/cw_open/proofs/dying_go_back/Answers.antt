use Rattle.cw_open.proofs.Refused.GoingBack.{aborted_victims, committed_safe, dying_back, dead_back}
use Rattle.cw_open.proofs.dying_go_back.Goals as goal

pub returns : goal.returns
returns c = record { aborted = aborted_victims; committed = committed_safe; dying = dying_back; dead = dead_back }
