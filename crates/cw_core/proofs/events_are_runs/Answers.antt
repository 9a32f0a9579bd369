use Rattle.cw_core.proofs.Events.Kept.{starts, events, lists}
use Rattle.cw_core.proofs.events_are_runs.Goals as goal

pub returns : goal.returns
returns c = record { start = starts; events = events; lists = lists }
