use Rattle.cw_serial.specs.InMemory.{Runs}
use Rattle.tests_record.proofs.tests.machines.loses_an_update.Given as goal

abbrev pub invariant-loop-strand : goal.invariant-loop-strand
invariant-loop-strand g l = Runs l.program l.machine
