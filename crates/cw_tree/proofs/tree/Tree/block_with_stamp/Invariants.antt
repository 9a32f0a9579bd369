use Rattle.std.proofs.Common.{◌≡◌, ◌==◌, None}
use Rattle.std.specs.Prelude.{◌&&◌}
use Rattle.std.specs.List.{find}
use Rattle.cw_tree.specs.Nodes.{is_block, stamp_of, below}
use Rattle.cw_tree.proofs.tree.Tree.block_with_stamp.Given as goal

-- no node below n is that block
abbrev pub invariant-loop-n : goal.invariant-loop-n
invariant-loop-n l = find (λ m. is_block l.self m && (stamp_of l.self m == l.stamp)) (below l.n) ≡ None
