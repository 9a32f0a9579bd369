use Rattle.std.proofs.Common.{◌≡◌}
use Rattle.cw_code.specs.Rules.{earliest, place_faults}
use Rattle.cw_code.specs.Nested.{IsGrown, seen}
use Rattle.cw_code.proofs.finding.judge_places.Given as goal

abbrev pub invariant-loop-n : goal.invariant-loop-n
invariant-loop-n l = record { first : l.first ≡ earliest l.fn.best (place_faults l.code l.func (seen l.fn.nestings l.places) l.n); grown : IsGrown l.fn.nestings l.nestings }
