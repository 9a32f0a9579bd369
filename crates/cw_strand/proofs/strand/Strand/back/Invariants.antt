use Rattle.std.proofs.Common.{◌≡◌, ◌≤◌, suc, length}
use Rattle.cw_strand.specs.Saving.{lowest}
use Rattle.cw_strand.proofs.Returning.{functions}
use Rattle.cw_strand.proofs.strand.Strand.back.Given as goal

-- those functions have left that were called since
abbrev pub invariant-loop-saved : goal.invariant-loop-saved
invariant-loop-saved l = record {
  same : lowest (suc l.saved.callers) (functions l.self) ≡ lowest (suc l.saved.callers) (functions l.fn.self);
  rest : l.self ≡ record l.fn.self { current = l.self.current; callers = l.self.callers };
  enough : l.saved.callers ≤ length l.self.callers;
}

abbrev pub decreases-loop-saved : goal.decreases-loop-saved
decreases-loop-saved l = length l.self.callers
