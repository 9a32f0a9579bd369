use Rattle.cw_serial.proofs.HeldBefore.{Held}
use Rattle.cw_serial.proofs.undo.held_before.Given as goal

abbrev pub invariant-loop-write : goal.invariant-loop-write
invariant-loop-write l = Held l.elements l.writes l.write-iterator.iter.rest.now l.held
