-- Blocks above one node that are not above another.
use Rattle.std.specs.Prelude.{ℕ, ◌&&◌, Bool, not, List}
use Rattle.cw_tree.specs.declared.node.Node.{Node}
use Rattle.cw_tree.specs.Nodes.{is_block}
use Rattle.cw_tree.specs.Walks.{is_above}

-- n is a block, and not above u
abbrev pub is_apart : List Node → (u n : ℕ) → Bool
is_apart t u n = is_block t n && not (is_above t n u)
