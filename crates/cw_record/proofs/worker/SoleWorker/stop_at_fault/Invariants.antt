use Rattle.std.proofs.Common.{◌≡◌, ◌<◌, ◌++◌, length, map}
use Rattle.std.specs.Prelude.{All}
use Rattle.cw_tree.specs.Nodes.{fresh_node}
use Rattle.cw_tree.specs.declared.node.Kind.TheVariants.{Strand}
use Rattle.cw_record.specs.OneWorker.{unstarted}
use Rattle.cw_record.proofs.worker.SoleWorker.stop_at_fault.Given as goal

abbrev pub invariant-loop-branch : goal.invariant-loop-branch
invariant-loop-branch l =
    (l.drawing.tree ++ map (λ f. fresh_node f Strand 0) (unstarted l.branches) ≡ l.fn.self.drawing.tree ++ map (λ f. fresh_node f Strand 0) (unstarted l.fn.self.branches))
    × (l.drawing.journals.items ≡ l.fn.self.drawing.journals.items)
    × All (λ f. f < length l.drawing.tree) (unstarted l.branches)

abbrev pub decreases-loop-branch : goal.decreases-loop-branch
decreases-loop-branch l = length l.branches
