use Rattle.std.proofs.Common.{◌≡◌, length}
use Rattle.cw_code.specs.Rules.{begun, places_after_passes, size_of}
use Rattle.cw_code.specs.Nested.{AreBelow, seen}
use Rattle.cw_code.proofs.finding.situations.Given as goal

abbrev pub invariant-loop : goal.invariant-loop
invariant-loop l = record {
  passed : seen l.nestings l.places.items ≡ places_after_passes l.code l.func (size_of l.func) l.counter (begun l.func (size_of l.func));
  long : length l.places.items ≡ size_of l.func;
  below : AreBelow (length l.nestings) l.places.items;
}
