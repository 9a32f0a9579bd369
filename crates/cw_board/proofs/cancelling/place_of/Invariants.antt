use Rattle.std.proofs.Common.{◌≡◌, ◌<◌, ◌≤◌, ℕ, length, get_or}
use Rattle.cw_tree.specs.AccessStacks.{stamps}
use Rattle.cw_board.proofs.cancelling.place_of.Given as goal

abbrev pub invariant-loop-place : goal.invariant-loop-place
invariant-loop-place l = (l.place < length l.entries) × ((k : ℕ) → k < length l.entries → get_or (stamps l.entries) k 0 ≡ l.stamp → k ≤ l.place)

abbrev pub decreases-loop-place : goal.decreases-loop-place
decreases-loop-place l = l.place
