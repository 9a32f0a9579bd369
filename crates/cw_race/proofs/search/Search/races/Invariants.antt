use Rattle.std.proofs.Common.{◌≡◌, ◌++◌}
use Rattle.std.specs.BTreeMap.{values}
use Rattle.cw_race.proofs.search.Search.races.Given as goal

-- those so far, and those that are left
abbrev pub invariant-loop-race : goal.invariant-loop-race
invariant-loop-race l = l.races.items ++ l.race-iterator ≡ values l.self.found
