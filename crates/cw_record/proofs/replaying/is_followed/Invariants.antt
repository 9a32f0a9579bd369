use Rattle.cw_serial.specs.InMemory.{Runs}
use Rattle.cw_record.proofs.Replay.Replayed.{Stands}
use Rattle.cw_record.proofs.replaying.is_followed.Given as goal

abbrev pub invariant-loop-place : goal.invariant-loop-place
invariant-loop-place l = Stands l.kept l.play l.place × Runs l.kept.program l.play.machine
