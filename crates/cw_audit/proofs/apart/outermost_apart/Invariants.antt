use Rattle.std.proofs.Common.{◌≡◌, ◌<◌, length}
use Rattle.std.specs.Option.{option_or}
use Rattle.cw_tree.specs.Walks.{above, outermost}
use Rattle.cw_tree.specs.Refusals.{outermost_apart}
use Rattle.cw_audit.specs.Apart.{is_apart}
use Rattle.cw_audit.proofs.apart.outermost_apart.Given as goal

-- the block stands above the node that was reached, or else was found
abbrev pub invariant-loop-at : goal.invariant-loop-at
invariant-loop-at l = record { there : l.at < length l.tree; same : option_or (outermost (is_apart l.tree l.u) (above l.tree l.at)) l.found ≡ outermost_apart l.tree l.u l.v }

abbrev pub decreases-loop-at : goal.decreases-loop-at
decreases-loop-at l = l.at
