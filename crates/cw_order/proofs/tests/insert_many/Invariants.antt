use Rattle.std.specs.List.{All, Contains}
use Rattle.cw_order.proofs.tests.insert_many.Given as goal

abbrev pub invariant-loop-turn : goal.invariant-loop-turn
invariant-loop-turn l = All (Contains l.list.elements) l.made.items
