use Rattle.cw_serial.specs.InMemory.{Runs}
use Rattle.cw_serial.proofs.Played.{Played}
use Rattle.cw_serial.proofs.play.serial.Given as goal

abbrev pub invariant-loop-place : goal.invariant-loop-place
invariant-loop-place l = Played (record { program = l.program; words = l.words; limits = l.fn.limits }) l.picks l.play l.place × Runs l.program l.play.machine
