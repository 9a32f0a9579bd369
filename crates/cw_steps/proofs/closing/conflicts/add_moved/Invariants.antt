use Rattle.std.specs.Prelude.{◌≡◌, ◌+◌, ◌++◌, map, take}
use Rattle.cw_tree.specs.declared.conflict.Conflict.{Conflict}
use Rattle.cw_steps.proofs.closing.conflicts.add_moved.Given as goal

abbrev pub invariant-loop-conflict : goal.invariant-loop-conflict
invariant-loop-conflict l = l.list.items ≡ l.initial.list.items ++ map (λ (c : Conflict). record c { asker = l.base + c.asker }) (take l.conflict-index l.conflicts)
