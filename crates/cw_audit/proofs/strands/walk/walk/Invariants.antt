use Rattle.cw_audit.specs.Walkers.{HasStrandsOf, law_of_told, spot_of}
use Rattle.cw_audit.proofs.Stepping.{IsGoing, steps_left}
use Rattle.cw_audit.proofs.strands.walk.walk.Given as goal

abbrev pub invariant-loop-visit : goal.invariant-loop-visit
invariant-loop-visit l =
    IsGoing (law_of_told l.told) l.told.tree.now l.told.end.now l.visits.items (spot_of l.walker) × HasStrandsOf l.told.task.program.now l.walker

abbrev pub decreases-loop-visit : goal.decreases-loop-visit
decreases-loop-visit l = steps_left l.told.tree.now l.visits.items
