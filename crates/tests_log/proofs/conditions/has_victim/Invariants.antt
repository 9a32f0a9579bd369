use Rattle.std.specs.List.{AllWithin}
use Rattle.std.specs.Prelude.{◌≡◌}
use Rattle.tests_log.proofs.conditions.has_victim.Given as goal

abbrev pub invariant-loop-conflict : goal.invariant-loop-conflict
invariant-loop-conflict l = AllWithin (λ c. c.victim ≡ l.begin → ⊥) l.conflicts 0 l.conflict-index
