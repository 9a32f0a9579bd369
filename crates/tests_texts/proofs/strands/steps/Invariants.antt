use Rattle.cw_strand.specs.Standing.{StandsIn}
use Rattle.tests_texts.proofs.strands.steps.Given as goal

abbrev pub invariant-wants : goal.invariant-wants
invariant-wants l = StandsIn l.program.code l.strand
