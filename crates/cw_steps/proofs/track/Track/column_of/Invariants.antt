use Rattle.std.proofs.Common.{◌≡◌, take, reverse}
use Rattle.cw_steps.specs.Tracks.{column_or}
use Rattle.std.specs.Prelude.{find, ◌==◌}
use Rattle.cw_steps.proofs.track.Track.column_of.Given as goal

abbrev pub invariant-loop-stood : goal.invariant-loop-stood
invariant-loop-stood l = l.column ≡ column_or (find (λ o. o.strand == l.strand) (reverse (take l.stood-index l.self.outer.items)))
