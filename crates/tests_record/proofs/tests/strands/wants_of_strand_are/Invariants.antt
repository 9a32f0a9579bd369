use Rattle.cw_strand.specs.Standing.{StandsIn}
use Rattle.tests_record.proofs.tests.strands.wants_of_strand_are.Given as goal

abbrev pub invariant-loop-want : goal.invariant-loop-want
invariant-loop-want g l = StandsIn l.program.code l.strand
