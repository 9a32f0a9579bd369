use Rattle.std.proofs.Common.{◌≡◌, ◌<◌, length}
use Rattle.std.specs.Option.{option_or}
use Rattle.cw_tree.specs.Walks.{path, outermost, may_fall}
use Rattle.cw_tree.specs.VictimsAt.{victim_at}
use Rattle.cw_tree.specs.AccessStacks.{access_at}
use Rattle.cw_core.proofs.cores.Core.victim.Given as goal

abbrev pub invariant-loop-node : goal.invariant-loop-node
invariant-loop-node g l =
    (l.node < length l.self.machine.tree)
    × (victim_at l.self.machine.tree (access_at l.self.machine.tree l.last.stamp) l.place ≡ option_or (outermost (may_fall l.self.machine.tree (access_at l.self.machine.tree l.last.stamp)) (path l.self.machine.tree l.node)) l.found)

abbrev pub decreases-loop-node : goal.decreases-loop-node
decreases-loop-node g l = l.node
