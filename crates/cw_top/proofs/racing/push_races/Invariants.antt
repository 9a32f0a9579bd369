use Rattle.std.proofs.Common.{◌≡◌, ◌++◌, drop, string_bytes}
use Rattle.std.specs.List.{flat_map}
use Rattle.cw_top.specs.RacesTold.{race_line}
use Rattle.cw_top.proofs.racing.push_races.Given as goal

abbrev pub invariant-loop-race : goal.invariant-loop-race
invariant-loop-race l = string_bytes l.text ++ flat_map (race_line l.cells l.tree) (drop l.race-index l.races) ≡ string_bytes l.fn.text ++ flat_map (race_line l.cells l.tree) l.races
