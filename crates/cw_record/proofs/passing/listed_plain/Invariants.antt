use Rattle.std.proofs.Common.{◌-◌}
use Rattle.cw_record.specs.Plain.{IsPassed, UndoneAt}
use Rattle.cw_record.proofs.passing.listed_plain.Given as goal

-- the nodes below n are passed
abbrev pub invariant-loop-n : goal.invariant-loop-n
invariant-loop-n l = record { passed : IsPassed l.tree l.n l.pass.names.items l.pass.forks.items l.pass.numbers.items; undone : UndoneAt l.tree (l.n - 1) l.pass.undone }
