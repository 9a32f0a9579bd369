use Rattle.std.proofs.Common.{◌+◌, ◌*◌, ◌≤◌}
use Rattle.cw_race.proofs.Searching.{Searched}
use Rattle.cw_race.proofs.Counted.{counted}
use Rattle.cw_race.proofs.finding.look_through.Given as goal

-- the nodes below this one were looked at, each access in at most four steps
abbrev pub invariant-loop-n : goal.invariant-loop-n
invariant-loop-n g l = record {
  searched : Searched l.tree l.n l.search;
  cost : l.steps ≤ l.initial.steps + 4 * counted l.tree l.n;
}
