use Rattle.std.proofs.Common.{◌≡◌, drop, None}
use Rattle.cw_code.specs.Rules.{earliest, faults_from, faults}
use Rattle.cw_code.proofs.finding.first_fault.Given as goal

abbrev pub invariant-loop-n : goal.invariant-loop-n
invariant-loop-n l = earliest l.best (faults_from l.code l.laid l.at (drop l.n l.code.funcs)) ≡ earliest None (faults l.code)
