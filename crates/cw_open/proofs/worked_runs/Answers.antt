use Rattle.std.proofs.Common.{◌<◌, refl, arith}
use Rattle.cw_open.proofs.worked_runs.Goals as goal

pub returns-clause-left_strands : goal.returns-clause-left_strands
returns-clause-left_strands c = record {
  after = refl;
  unrefused = refl;
  before = refl;
  refused = refl;
  late = refl;
  met = record { last = (refl, refl); parallel = refl; block = (4, refl, refl) };
  ended = refl;
  refused_late = refl;
  beside = record { fork = 1; left = 2; right = 3; forks = refl; strands = refl; in_left = refl; in_right = refl };
  older = record { came = omega arith; ended = omega arith; shut = refl };
  early = refl;
  beside_early = record { fork = 1; left = 2; right = 3; forks = refl; strands = refl; in_left = refl; in_right = refl };
  not_older = λ o. absurd (let c : 3 < 2 = o.came in omega arith);
}
