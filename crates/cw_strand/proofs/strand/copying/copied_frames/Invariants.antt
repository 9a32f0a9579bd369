use Rattle.std.proofs.Common.{◌≡◌, take, reverse}
use Rattle.cw_strand.proofs.strand.copying.copied_frames.Given as goal

abbrev pub invariant-loop-frame : goal.invariant-loop-frame
invariant-loop-frame l = l.copies ≡ reverse (take l.frame-index l.frame-items)
