use Rattle.std.proofs.Common.{◌-◌, ◌≡◌, ◌≤◌, length}
use Rattle.cw_io.specs.Outside.{Takes}
use Rattle.cw_top.proofs.reading.read_all.Given as goal

abbrev pub invariant-pieces : goal.invariant-pieces
invariant-pieces g l =
    let source = g.S.Source in
    record {
      few : length l.bytes.items ≤ l.fn.most;
      later : source.faults l.fn.source ≤ source.faults l.source;
      none : source.ends l.source ≡ source.ends l.fn.source;
      given : Takes (source.left l.fn.source) (source.left l.source) l.bytes.items;
    }

abbrev pub decreases-pieces : goal.decreases-pieces
decreases-pieces g l = l.fn.most - length l.bytes.items
