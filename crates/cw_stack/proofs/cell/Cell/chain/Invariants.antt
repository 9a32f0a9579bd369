use Rattle.std.proofs.Common.{◌≡◌, take}
use Rattle.cw_tree.specs.AccessStacks.{stamps}
use Rattle.cw_stack.proofs.cell.Cell.chain.Given as goal

abbrev pub invariant-loop-entry : goal.invariant-loop-entry
invariant-loop-entry l = l.chain.items ≡ stamps (take l.entry-index l.entry-items)
