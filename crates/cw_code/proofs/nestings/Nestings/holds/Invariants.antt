use Rattle.std.proofs.Common.{◌≡◌, ◌<◌, length}
use Rattle.cw_code.specs.Rules.{parts_in}
use Rattle.cw_code.specs.Nested.{parts_at}
use Rattle.cw_code.proofs.nestings.Nestings.holds.Given as goal

abbrev pub invariant-loop-row : goal.invariant-loop-row
invariant-loop-row l =
    record { below : l.around < length l.self; same : parts_in l.part (parts_at l.self l.around) ≡ parts_in l.part (parts_at l.self l.number) }

abbrev pub decreases-loop-row : goal.decreases-loop-row
decreases-loop-row l = l.around
