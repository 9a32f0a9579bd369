use Rattle.std.proofs.Common.{refl}
use Rattle.std.specs.Fmt.{digits}
use Rattle.cw_report.proofs.worked_reports.Goals as goal

pub returns-clause-counts : goal.returns-clause-counts
unfolding digits
returns-clause-counts c = record { strands = refl; committed = refl; undone = refl; text = refl }

pub returns-clause-cancelled : goal.returns-clause-cancelled
unfolding digits
returns-clause-cancelled c = record { committed = refl; undone = refl; cancelled = refl; first = refl; second = refl }

pub returns-clause-lines : goal.returns-clause-lines
unfolding digits
returns-clause-lines c = record { array = refl; plain = refl; no_victim = refl; end = refl; no_cell = refl }
