use Rattle.std.proofs.Common.{◌≡◌, ◌<◌, ◌++◌, length, replicate}
use Rattle.cw_code.specs.Nested.{parts_at, IsGrown}
use Rattle.cw_code.proofs.nestings.Nestings.again.Given as goal

abbrev pub invariant-loop : goal.invariant-loop
invariant-loop l =
    record { grown : IsGrown l.fn.self l.self; made : l.inner < length l.self; parts : parts_at l.self l.inner ≡ replicate l.counter l.part ++ parts_at l.fn.self l.number }
