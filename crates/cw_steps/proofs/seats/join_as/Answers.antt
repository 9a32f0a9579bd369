use Rattle.std.proofs.Common.{rules}
use Rattle.cw_steps.proofs.Steps.Parting.{joins}
use Rattle.cw_steps.proofs.seats.join_as.Goals as goal

pub join_seat-requires : goal.join_seat-requires
join_seat-requires g c = (search rules, search rules, c.requires.idle.0, search rules, joins _ _ _ _ _ g.W.Joining.behind g.W.Joining.second c.requires.idle.1 c.requires.note)
