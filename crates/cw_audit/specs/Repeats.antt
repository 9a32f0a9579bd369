-- Which attempt a node is: of a refused access among the refusals of its cell, of a block among those that were rolled back.
use Rattle.std.specs.Prelude.{◌≡◌, ℕ, ◌<◌, Bool, List, length, slice_index, if◌then◌else◌}
use Rattle.cw_tree.specs.declared.node.Node.{Node}
use Rattle.cw_tree.specs.Nodes.{is_aborted, is_tried}
use Rattle.cw_tree.specs.Attempts.{tried_cell, same_cell, block_attempt, access_attempt}

-- the number of the attempt that node n is
abbrev pub attempt : List Node → ℕ → ℕ
attempt t n = if is_tried t n then access_attempt t n else block_attempt t n

-- after m, node n is one more attempt
abbrev pub repeats : List Node → (m n : ℕ) → Bool
repeats t m n = if is_tried t n then same_cell (tried_cell t m) (tried_cell t n) else is_aborted t m

pub record AreAttempts (t : List Node) (attempts : List ℕ) : Type 0 where
  pub len : length attempts ≡ length t
  pub each : (n : ℕ) → n < length t → slice_index attempts n ≡ attempt t n
