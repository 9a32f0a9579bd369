use Rattle.std.proofs.Common.{◌≤◌}
use Rattle.std.proofs.Math.Nat.{le-max_left}
use Rattle.cw_strand.proofs.Standing.{grown_stands}
use Rattle.cw_strand.proofs.strand.Strand.joined.Goals as goal

pub returns-clause-stands : goal.returns-clause-stands
returns-clause-stands c = λ code s.
    let size : c.self.inside.size ≤ c.max-self-inside-2.result = rw c.max-self-inside-2.ensures (le-max_left c.self.inside.size c.min.result) in
    grown_stands code _ c.max-self-inside.result c.max-self-inside-2.result size (rw (← c.self.view_is) at s)
