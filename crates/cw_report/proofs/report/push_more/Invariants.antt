use Rattle.std.proofs.Common.{◌≡◌, ◌++◌, drop, string_bytes}
use Rattle.cw_report.specs.Report.{more_text}
use Rattle.cw_report.proofs.report.push_more.Given as goal

abbrev pub invariant-loop-stamp : goal.invariant-loop-stamp
invariant-loop-stamp l = string_bytes l.text ++ more_text (drop l.stamp-index l.stamps) ≡ string_bytes l.fn.text ++ more_text l.stamps
