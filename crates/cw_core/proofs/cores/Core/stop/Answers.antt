use Rattle.std.proofs.Common.{◌≡◌, ap, ◌∙◌, true}
use Rattle.cw_core.specs.Events.{fits, after_event}
use Rattle.cw_core.specs.declared.event.Event.TheVariants as event
use Rattle.cw_core.proofs.InMemory.Out.{seen}
use Rattle.cw_core.proofs.Kept.Stopping.{stop_state, stop_kept}
use Rattle.cw_core.proofs.cores.Core.stop.Goals as goal

pub invariant_of-self : goal.invariant_of-self
invariant_of-self c =
    let fit = seen c.self.inside c.args.self.now (λ k. fits k (event.Stop c.args.halt) ≡ true) c.self.view_is c.requires in
    stop_kept c.self.inside c.self.invariant c.args.halt fit

pub returns : goal.returns
returns c =
    let fit = seen c.self.inside c.args.self.now (λ k. fits k (event.Stop c.args.halt) ≡ true) c.self.view_is c.requires in
    stop_state c.self.inside c.args.halt fit ∙ ap (λ k. after_event k (event.Stop c.args.halt)) c.self.view_is
