use Rattle.std.proofs.Common.{rules}
use Rattle.cw_steps.proofs.Steps.Turning.{gives_at}
use Rattle.cw_steps.proofs.calls.give_as.Goals as goal

pub store-requires : goal.store-requires
store-requires g c = let h = c.requires.held in (search rules, search rules, gives_at _ _ _ _ _ c.args.slot _ h.0 (search rules) c.requires.there h.1 h.2 h.3)
