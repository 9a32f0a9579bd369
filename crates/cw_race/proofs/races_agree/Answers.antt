use Rattle.cw_race.proofs.Agreeing.{races_agree}
use Rattle.cw_race.proofs.races_agree.Goals as goal

pub returns : goal.returns
returns c = races_agree
