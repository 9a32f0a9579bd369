use Rattle.std.proofs.Common.{◌≡◌, map, take}
use Rattle.cw_steps.specs.Views.{fresh_slot}
use Rattle.cw_steps.proofs.table.opening.fresh_slots.Given as goal

abbrev pub invariant-loop-value : goal.invariant-loop-value
invariant-loop-value l = l.slots.items ≡ map fresh_slot (take l.value-index l.init)
