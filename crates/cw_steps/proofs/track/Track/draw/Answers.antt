use Rattle.cw_steps.specs.Tracks.{added}
use Rattle.cw_steps.proofs.track.Track.draw.Goals as goal

pub draw_settled-requires-clause-ready : goal.draw_settled-requires-clause-ready
draw_settled-requires-clause-ready c = c.settle.ensures.ready (added c.args.what) c.requires

pub returns-clause-ready : goal.returns-clause-ready
returns-clause-ready c = λ n h. c.draw_settled.ensures.ready n (c.settle.ensures.ready _ h)
