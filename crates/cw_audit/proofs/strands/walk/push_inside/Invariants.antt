use Rattle.std.proofs.Common.{◌≡◌, [], ◌∷◌, ◌++◌, map, take}
use Rattle.cw_audit.specs.declared.strands.walk.Visit.TheVariants.{Enter, Leave}
use Rattle.cw_audit.proofs.strands.walk.push_inside.Given as goal

abbrev pub invariant-loop-child : goal.invariant-loop-child
invariant-loop-child l = l.visits.items ≡ (l.fn.visits.items ++ Leave l.n ∷ []) ++ map Enter (take l.child-index l.child-items)
