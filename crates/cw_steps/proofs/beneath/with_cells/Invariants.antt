use Rattle.std.specs.Prelude.{◌≡◌, filter, nat_le, take}
use Rattle.cw_steps.specs.Beneath.{cells_reached, least_with}
use Rattle.cw_steps.proofs.beneath.with_cells.Given as goal

abbrev pub invariant-loop-node : goal.invariant-loop-node
invariant-loop-node l = l.least ≡ least_with l.fn.found (filter (nat_le l.from) (cells_reached l.writes (take l.node-index l.nodes)))
