use Rattle.std.proofs.Common.{◌≡◌, ◌++◌, map}
use Rattle.cw_serial.specs.Wants.{put_back_since}
use Rattle.cw_serial.specs.InMemory.{since_of}
use Rattle.cw_serial.proofs.HeldBefore.{back_of}
use Rattle.cw_serial.proofs.undo.put_back.Given as goal

abbrev pub invariant-loop-cell : goal.invariant-loop-cell
invariant-loop-cell l = l.list ++ map back_of l.cell-iterator ≡ put_back_since (since_of l.writes l.memory)
