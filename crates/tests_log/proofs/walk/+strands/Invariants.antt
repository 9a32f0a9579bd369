use Rattle.std.proofs.Common.{◌*◌, ◌+◌}
use Rattle.tests_log.proofs.walk.+strands.Given as goal

abbrev pub decreases-Walk::walks : goal.decreases-Walk::walks
decreases-Walk::walks g l = 4 * l.depth

abbrev pub decreases-Walk::beside-join+arg2 : goal.decreases-Walk::beside-join+arg2
decreases-Walk::beside-join+arg2 g l = 4 * l.depth + 1

abbrev pub decreases-Walk::beside-join+arg3 : goal.decreases-Walk::beside-join+arg3
decreases-Walk::beside-join+arg3 g l = 4 * l.depth + 1

abbrev pub decreases-Walk::beside : goal.decreases-Walk::beside
decreases-Walk::beside g l = 4 * l.depth + 2

abbrev pub decreases-Walk::after : goal.decreases-Walk::after
decreases-Walk::after g l = 4 * l.depth + 2

abbrev pub decreases-Walk::forks : goal.decreases-Walk::forks
decreases-Walk::forks g l = 4 * l.depth + 3
