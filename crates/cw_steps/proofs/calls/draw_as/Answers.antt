use Rattle.std.proofs.Common.{rules, sym, subst}
use Rattle.cw_steps.specs.Views.{CanDraw}
use Rattle.cw_steps.proofs.Steps.Draws.{draws}
use Rattle.cw_steps.proofs.calls.draw_as.Goals as goal

pub fetch_add-found-requires : goal.fetch_add-found-requires
fetch_add-found-requires g c = (search rules, search rules, draws _ _ g.W.Drawing.behind g.W.Drawing.second _ _ _ c.requires.number (subst (CanDraw _ _) (sym c.requires.what.0) c.requires.fits))
