-- The core stops, and all else is as it was.
use Rattle.std.proofs.Common.{ap, ◌∙◌}
use Rattle.cw_core.specs.declared.event.Event.TheVariants as event
use Rattle.cw_core.specs.Events.{after_event}
use Rattle.cw_sim.proofs.InMemory.Still.{stop_stands}
use Rattle.cw_sim.proofs.moves.Driver.stop_run.Goals as goal

pub returns : goal.returns
returns c = λ z old.
    stop_stands c.args.self.now c.step.new.self z c.args.halt old (c.in_ok-step.ensures.ok ∙ ap (λ k. after_event k (event.Stop c.args.halt)) old.core) c.in_ok-step.ensures.stands
