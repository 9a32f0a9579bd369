use Rattle.std.proofs.Common.{◌≡◌, ℕ, List, ℤ}
use Rattle.cw_code.specs.declared.Limits.{Limits}
use Rattle.cw_strand.specs.Running.{stand}
use Rattle.cw_strand.specs.Meaning.{stores_and_steps_left}
use Rattle.cw_strand.specs.Coded.{runs, steps_left, with_value}
use Rattle.cw_strand.specs.Standing.{StandsIn}
use Rattle.cw_strand.proofs.strand.Strand.next.Given as goal

-- the strand stands at a place, and comes to the same want as at first
abbrev pub invariant-steps : goal.invariant-steps
invariant-steps l = record {
  stands : StandsIn l.code l.self;
  same : (main : ℕ) (words : List ℤ) (limits : Limits) → stand (runs l.code main words limits) l.self ≡ stand (runs l.code main words limits) (with_value l.fn.given l.fn.self);
}

abbrev pub decreases-steps : goal.decreases-steps
decreases-steps l = stores_and_steps_left l.self.limits (steps_left l.code l.self) l.self.size
