use Rattle.std.proofs.Common.{length, take, ◌-◌, ◌≤◌}
use Rattle.cw_io.specs.Outside.{Appends, KeepsTelling}
use Rattle.cw_io.proofs.sink.write_all.Given as goal

-- what was written so far, that the sink goes on telling it, and that the count of faults did not fall
abbrev pub invariant-loop-done : goal.invariant-loop-done
invariant-loop-done g l = record {
  within : l.done ≤ length l.text;
  appended : Appends (g.K.Sink.written l.initial.sink) (g.K.Sink.written l.sink) (take l.done l.text);
  told : KeepsTelling (g.K.Sink.tells_for l.initial.sink) (g.K.Sink.tells_for l.sink) (g.K.Sink.written l.initial.sink) (g.K.Sink.written l.sink) l.done;
  later : g.K.Sink.faults l.initial.sink ≤ g.K.Sink.faults l.sink;
}

abbrev pub decreases-loop-done : goal.decreases-loop-done
decreases-loop-done g l = length l.text - l.done
