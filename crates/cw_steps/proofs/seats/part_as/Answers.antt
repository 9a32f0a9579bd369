use Rattle.std.proofs.Common.{rules, sym, ◌∙◌}
use Rattle.cw_steps.proofs.Steps.Parting.{parts}
use Rattle.cw_steps.proofs.seats.part_as.Goals as goal

pub split_seat-requires : goal.split_seat-requires
split_seat-requires g c = (search rules, search rules, parts _ _ _ g.W.Parting.behind g.W.Parting.second g.W.Parting.take_back (λ e. (c.requires.numbers (sym c.requires.what.0 ∙ e)).0) (λ e. (c.requires.numbers (sym c.requires.what.0 ∙ e)).1))
