use Rattle.std.proofs.Common.{◌≡◌, ◌<◌, length}
use Rattle.cw_code.specs.Nested.{situation_at}
use Rattle.cw_code.specs.Walked.{walked, IsWalked}
use Rattle.cw_code.proofs.walking.walk.Given as goal

abbrev pub invariant-loop-n : goal.invariant-loop-n
invariant-loop-n l = record {
  so_far : IsWalked l.code l.func l.nestings l.levels.items l.n;
  low : l.level.nesting < length l.nestings;
  here : situation_at l.nestings l.level ≡ walked l.code l.func l.n;
}
