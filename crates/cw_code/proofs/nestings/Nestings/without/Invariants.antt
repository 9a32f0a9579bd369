use Rattle.std.proofs.Common.{◌≡◌, ◌+◌, ◌<◌, ◌≤◌, false, ◌++◌, length, replicate}
use Rattle.cw_code.specs.declared.situation.Part.{Part}
use Rattle.cw_code.specs.Rules.{is_part}
use Rattle.cw_code.specs.Nested.{parts_at}
use Rattle.cw_code.proofs.nestings.Nestings.without.Given as goal

abbrev pub invariant-loop-found : goal.invariant-loop-found
invariant-loop-found l =
    record { same : l.self ≡ l.fn.self; below : l.around < length l.self; room : l.passed + l.around ≤ l.number; parts : (q : Part) → is_part l.part q ≡ false → parts_at l.self l.number ≡ replicate l.passed q ++ parts_at l.self l.around }

abbrev pub decreases-loop-found : goal.decreases-loop-found
decreases-loop-found l = l.around
