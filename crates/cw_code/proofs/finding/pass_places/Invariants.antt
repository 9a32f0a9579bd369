use Rattle.std.proofs.Common.{◌≡◌, length}
use Rattle.cw_code.specs.Rules.{pass}
use Rattle.cw_code.specs.Nested.{IsGrown, AreBelow, seen}
use Rattle.cw_code.proofs.finding.pass_places.Given as goal

abbrev pub invariant-loop-n : goal.invariant-loop-n
invariant-loop-n l = record {
  passed : seen l.nestings l.places ≡ pass l.code l.func l.n (seen l.fn.nestings l.fn.places);
  long : length l.places ≡ length l.fn.places;
  grown : IsGrown l.fn.nestings l.nestings;
  below : AreBelow (length l.nestings) l.places;
}
