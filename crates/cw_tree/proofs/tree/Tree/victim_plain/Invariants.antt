use Rattle.std.proofs.Common.{◌≡◌}
use Rattle.std.specs.Option.{option_or}
use Rattle.cw_tree.specs.Walks.{above, outermost, victim, may_fall}
use Rattle.cw_tree.proofs.VictimsAt.Victims.{OnWay}
use Rattle.cw_tree.proofs.tree.Tree.victim_plain.Given as goal

-- the victim stands above the node that was reached, or else was found
abbrev pub invariant-loop-at : goal.invariant-loop-at
invariant-loop-at l = record { way : OnWay l.self l.u l.v l.at; same : option_or (outermost (may_fall l.self l.u) (above l.self l.at)) l.found ≡ victim l.self l.u l.v }

abbrev pub decreases-loop-at : goal.decreases-loop-at
decreases-loop-at l = l.at
